-- What was taken of a coding is of the bytes that were there and those that the source gave.
use Rattle.std.proofs.Common.{◌≡◌, ℕ, List, [], ◌++◌, length, take, drop, Option, Some, None, refl, sym, ap, ◌∙◌, subst, arith, append-nil}
use Rattle.std.proofs.lemmas.List.{drop_all}
use Rattle.std.specs.Prelude.{IfSome}
use Rattle.sc_chunks.specs.Coding.{HasCoding}
use Rattle.sc_chunks.specs.Endings.{partial as partial_coding, malformed as malformed_coding, too_large as too_large_coding, EndsCoding}
use Rattle.sc_chunks.specs.Progress.{EndsBy, IsCodingOf, Reaches}
use Rattle.sc_chunks.specs.declared.decoder.Decoder.{Decoder}
use Rattle.sc_chunks.specs.declared.error.DecodeError.{DecodeError}
use Rattle.sc_chunks.specs.declared.error.DecodeError.TheVariants as errors
use Rattle.sc_chunks.proofs.EndLemmas.{coding_stays, malformed_stays, too_large_stays}
use Rattle.sc_model.specs.Heads.{chunked}
use Rattle.sc_model.specs.Messages.{cut}
use Rattle.sc_http.specs.Bodies.{HasNoBody, EndsBody, GivesBody, LacksBody}
use Rattle.sc_http.specs.Ends.{ending_of, end_in_body, end_of_refusal}
use Rattle.sc_http.specs.Stream.{Gives, KeepsBytes, ReadsWhile, HasEnded}
use Rattle.sc_http.specs.declared.stopped.Stopped.{Stopped}
use Rattle.sc_http.specs.declared.stopped.Stopped.TheVariants as stops
use Rattle.sc_http.proofs.StreamLemmas.{reads_while, gives_out_first, whole_is, all_came}
use Rattle.sc_http.proofs.MessageLemmas.{no_body}

-- a whole coding was taken
pub chunks_given : (content coded left before : List ℕ) (old new : Option (List ℕ)) → IsCodingOf content coded → KeepsBytes coded left before old new
    → GivesBody chunked content left before old new
chunks_given content coded left before old new (coding, has, is) given = record {
  piece = given.piece;
  reads = (coding, subst (λ (xs : List ℕ). HasCoding xs coding left) given.whole (coding_stays coded left coding [] has), is);
  gives = given.gives;
}

-- a coding is not whole, and all that came of it was taken
chunks_none : (coded : List ℕ) → EndsCoding coded partial_coding → HasNoBody chunked coded
chunks_none coded ends = no_body chunked coded cut (partial_coding, ends, refl)

pub chunks_lacking : (coded before : List ℕ) (old new : Option (List ℕ)) → EndsCoding coded partial_coding → KeepsBytes coded [] before old new
    → LacksBody chunked before old new
chunks_lacking coded before old new ends given = record {
  piece = given.piece;
  none = subst (HasNoBody chunked) (sym (append-nil coded) ∙ given.whole) (chunks_none coded ends);
  gives = given.gives;
}

pub chunks_needed : (coded before piece : List ℕ) (a b c : Option (List ℕ)) → EndsCoding coded partial_coding → KeepsBytes coded [] before a b
    → Gives piece b c → ReadsWhile (λ xs. HasNoBody chunked (before ++ xs)) a c
chunks_needed coded before piece a b c ends given came =
    reads_while (HasNoBody chunked) coded [] before piece a b c given came (subst (HasNoBody chunked) (sym (append-nil coded)) (chunks_none coded ends))

-- the input ended inside it
pub chunks_cut : (coded before : List ℕ) (a b c : Option (List ℕ)) → EndsCoding coded partial_coding → KeepsBytes coded [] before a b
    → Gives [] b c → HasEnded b c → IfSome a (λ bytes. EndsBody chunked (before ++ bytes) cut)
chunks_cut coded before None b c ends given none ended = tt
chunks_cut coded before (Some bytes) b c ends given none ended =
    (partial_coding, subst (λ (xs : List ℕ). EndsCoding xs partial_coding) (sym (all_came coded before bytes b c given none ended)) ends, refl)

pub chunks_stopped : (stopped : Stopped) (coded before : List ℕ) (a b c : Option (List ℕ)) → EndsCoding coded partial_coding → KeepsBytes coded [] before a b
    → Gives [] b c → (stopped ≡ stops.Ended → HasEnded b c)
    → IfSome (ending_of (end_in_body stopped)) (λ ending. IfSome a (λ bytes. EndsBody chunked (before ++ bytes) ending))
chunks_stopped stops.Ended coded before a b c ends given none ended = chunks_cut coded before a b c ends given none (ended refl)
chunks_stopped stops.Failed coded before a b c ends given none ended = tt
chunks_stopped stops.Memory coded before a b c ends given none ended = tt

-- it can't be decoded
pub chunks_refused : (error : DecodeError) (coded left before : List ℕ) (old new : Option (List ℕ)) → EndsBy error (coded ++ left)
    → KeepsBytes coded left before old new
    → IfSome (ending_of (end_of_refusal error)) (λ ending. IfSome old (λ bytes. EndsBody chunked (before ++ bytes) ending))
chunks_refused errors.Malformed coded left before None new ends given = tt
chunks_refused errors.Malformed coded left before (Some bytes) new ends given = (
  malformed_coding,
  subst (λ (xs : List ℕ). EndsCoding xs malformed_coding)
      (sym (whole_is (coded ++ left) before given.piece bytes given.gives.more given.whole given.gives.whole))
      (malformed_stays (coded ++ left) given.gives.more ends),
  refl,
)
chunks_refused errors.TooLarge coded left before None new ends given = tt
chunks_refused errors.TooLarge coded left before (Some bytes) new ends given = (
  too_large_coding,
  subst (λ (xs : List ℕ). EndsCoding xs too_large_coding)
      (sym (whole_is (coded ++ left) before given.piece bytes given.gives.more given.whole given.gives.whole))
      (too_large_stays (coded ++ left) given.gives.more ends),
  refl,
)
chunks_refused errors.Memory coded left before old new ends given = tt

-- bytes more were taken of the coding, which the buffer gave out
pub chunks_taken : (coded unread buffer left before : List ℕ) (count : ℕ) (decoder : Decoder) (old new : Option (List ℕ)) → Reaches (coded ++ take count unread) decoder
    → unread ≡ buffer → left ≡ drop count buffer → KeepsBytes coded buffer before old new
    → (more : List ℕ) × Reaches more decoder × KeepsBytes more left before old new
chunks_taken coded unread buffer left before count decoder old new reaches same others given = (
  coded ++ take count buffer,
  subst (λ (xs : List ℕ). Reaches (coded ++ take count xs) decoder) same reaches,
  subst (λ (xs : List ℕ). KeepsBytes (coded ++ take count buffer) xs before old new) (sym others) (gives_out_first coded buffer before count old new given),
)

-- all of them were
pub all_taken : (unread buffer left : List ℕ) (count : ℕ) → count ≡ length unread → unread ≡ buffer → left ≡ drop count buffer → left ≡ []
all_taken unread buffer left count all same others = others ∙ drop_all count buffer (omega (arith, all, ap length same))
