use Rattle.std.proofs.Common.{◌∙◌, arith}
use Rattle.sc_values.proofs.ShortLemmas.{words-order}
use Rattle.sc_values.proofs.short.order_of_padded.Goals as goal

pub returns : goal.returns
returns c =
    c.order_of_words.ensures
    ∙ words-order c.args.mine.now c.args.others.now c.told-mine c.told-others (λ i. let fits = c.fits-mine i in omega arith) (λ i. let fits = c.fits-others i in omega arith)
