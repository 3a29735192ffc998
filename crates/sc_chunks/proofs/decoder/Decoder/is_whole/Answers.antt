-- Before the end of a coding its bytes are open.
use Rattle.std.proofs.lemmas.Bool.{false≢true}
use Rattle.sc_chunks.proofs.DecoderLemmas.{unfinished}
use Rattle.sc_chunks.proofs.decoder.Decoder.is_whole.Goals as goal

pub returns-in_default : goal.returns-in_default
returns-in_default c = record {
  whole = (λ is. absurd (false≢true is), λ is. absurd (c.in_default.not-End is));
  unfinished = λ coded reached same. unfinished coded c.args.self.now reached c.in_default.not-End;
}
