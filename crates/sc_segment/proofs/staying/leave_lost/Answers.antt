-- One lost key more, and then all of them.
use Rattle.std.proofs.Common.{◌≡◌, ◌<◌, ◌≤◌, length, slice_get, Some, sym, ap, ◌∙◌, arith, ⊎_elim}
use Rattle.std.proofs.lemmas.Bool.{cases_lt}
use Rattle.std.proofs.lemmas.Map.Entries.{length-keys_of}
use Rattle.std.proofs.lemmas.Option.{slice_get_within}
use Rattle.std.specs.Map.{keys_of}
use Rattle.sc_keys.proofs.SearchLemmas.{in_order}
use Rattle.sc_segment.proofs.EntryLemmas.{place_of_key}
use Rattle.sc_segment.proofs.StayingLemmas.{apart-back, rows_at-none}
use Rattle.sc_segment.proofs.staying.leave_lost.Goals as goal

pub seeking-preserved : goal.seeking-preserved
seeking-preserved g c =
    let o = g.met.K.Key.total in
    let lost = keys_of c.args.lost.now.entries in
    let at = c.seeking.at in
    let key = c.get.result.now in
    let key_at : slice_get lost at ≡ Some key = rw c.keys-keys.ensures.keys at c.get.ensures in
    let old = c.keys.ensures.keys in
    let done = c.leave_key-from.ensures in
    let before = c.seeking.invariant in
    record {
      as_long = done.as_long ∙ before.as_long;
      within = omega (arith, done.within, ap length old, length-keys_of c.args.old.now.entries);
      passed = λ i k low here j m later at_j. done.passed i k m low (ap (λ ks. slice_get ks i) old ∙ here) (in_order o lost at j key m c.requires.lost.keys (omega (arith, later)) key_at at_j);
      apart = λ i k here stay j m up_to at_j. ⊎_elim
          (λ (low : j < at). before.apart i k here (done.still i stay) j m low at_j)
          (λ (high : at ≤ j). let same : at ≡ j = omega (arith, high, up_to) in
          let one : Some key ≡ Some m = sym key_at ∙ ap (slice_get lost) same ∙ at_j in
          let equal : key ≡ m = cc in
          rw equal at (done.apart i k (ap (λ ks. slice_get ks i) old ∙ here) stay))
          (cases_lt j at);
    }

pub returns-clause-lost : goal.returns-clause-lost
returns-clause-lost g c = λ i e here stay.
    let o = g.met.K.Key.total in
    let all = ap length c.keys-keys.ensures.keys in
    rows_at-none o e.0 c.args.lost.now.entries (λ j m at_j. let within = slice_get_within (keys_of c.args.lost.now.entries) j m at_j in
    apart-back o m e.0 (c.seeking.invariant.apart i e.0 (place_of_key o c.args.old.now.entries i e here) stay j m (omega (arith, within, all, c.seeking-test.false, c.len-at-end.ensures)) at_j))
