-- The keys so far, and then those of the words left.
use Rattle.std.proofs.Common.{◌≡◌, ◌++◌, map}
use Rattle.unicode_segmentation.specs.Iter.{unicode_words_left}
use Rattle.sc_schema.specs.Terms.{folded}
use Rattle.sc_schema.proofs.word.push_words.Given as goal

abbrev pub invariant-loop-word : goal.invariant-loop-word
invariant-loop-word l =
    l.keys.items ++ map folded (unicode_words_left l.word-iterator)
    ≡ l.initial.keys.items ++ map folded (unicode_words_left l.initial.word-iterator)
