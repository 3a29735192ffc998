-- One key of the added index after another, and then the keys of the old one that are left.
use Rattle.std.proofs.Common.{◌≡◌, [], ◌++◌, length, take, slice_get, Some, sym, ap, subst, ◌∙◌, arith}
use Rattle.std.proofs.lemmas.List.{take_all}
use Rattle.std.proofs.lemmas.List.Elements.{All-nil}
use Rattle.std.proofs.lemmas.Map.Entries.{length-keys_of}
use Rattle.std.specs.Map.{keys_of}
use Rattle.sc_keys.proofs.StoringLemmas.{take-place, IsWithin}
use Rattle.sc_keys.proofs.SearchLemmas.{in_order}
use Rattle.sc_segment.proofs.EntryLemmas.{so_far-start, above-before, place_of_key}
use Rattle.sc_segment.proofs.IndexLemmas.{All-place}
use Rattle.sc_segment.specs.Carrying.{AreBefore}
use Rattle.sc_segment.specs.Storing.{IsCarriedAt}
use Rattle.sc_segment.specs.Index.{HasRows}
use Rattle.sc_segment.proofs.carrying.carry_all.Goals as goal

pub adding-init : goal.adding-init
adding-init g c = record {
  none = ap (λ s. s.pending) c.requires.empty;
  within = omega arith;
  before = λ i e from at. tt;
  passed = λ i e from at. tt;
  carried = subst (IsCarriedAt g.K.Key.order (c.args.old.now.stored ++ c.args.added.now.stored) c.args.moved.now [] []) (sym (ap (λ s. s.entries) c.requires.empty))
      (record { are_places = All-nil (IsWithin (c.args.old.now.stored ++ c.args.added.now.stored)); so_far = so_far-start g.met.K.Key.total c.args.moved.now });
}

pub carry_to_key-requires-clause-above : goal.carry_to_key-requires-clause-above
carry_to_key-requires-clause-above g c =
    let key_at = rw c.keys-keys.ensures.keys at c.get.ensures in
    c.adding.invariant.passed c.adding.at (c.get.result.now, c.rows_of-rows.result.now) (omega arith) (c.rows_of-rows.ensures c.get.result.now key_at)

pub carry_to_key-requires-clause-rows : goal.carry_to_key-requires-clause-rows
carry_to_key-requires-clause-rows g c =
    let key_at = rw c.keys-keys.ensures.keys at c.get.ensures in
    All-place HasRows c.args.added.now.entries c.adding.at (c.get.result.now, c.rows_of-rows.result.now) c.requires.added.rows (c.rows_of-rows.ensures c.get.result.now key_at)

pub adding-preserved : goal.adding-preserved
adding-preserved g c =
    let o = g.met.K.Key.total in
    let old = c.args.old.now.entries in
    let added = c.args.added.now.entries in
    let at = c.adding.at in
    let key = c.get.result.now in
    let rows = c.rows_of-rows.result.now in
    let done = c.in_ok-from.ensures in
    let i = c.adding.invariant in
    let key_at = rw c.keys-keys.ensures.keys at c.get.ensures in
    let entry : slice_get added at ≡ Some (key, rows) = c.rows_of-rows.ensures key key_at in
    let stored_at : slice_get (c.args.old.now.stored ++ c.args.added.now.stored) c.in_ok-place.place ≡ Some key =
    ap (λ ks. slice_get (ks ++ c.args.added.now.stored) c.in_ok-place.place) (sym c.keys.ensures.stored)
    ∙ ap (λ ks. slice_get (c.keys.result.now.stored ++ ks) c.in_ok-place.place) (sym c.keys-keys.ensures.stored)
    ∙ c.in_ok-place.ensures
    ∙ c.get.ensures in
    let more = take-place added at (key, rows) entry in
    record {
      none = done.none;
      within = done.within;
      before = subst (λ es. AreBefore g.K.Key.order es old c.in_ok-from.from) (sym more) (done.before (take at added) i.before);
      passed = λ j f later at_j. done.passed f.0 (in_order o (keys_of added) at j key f.0 c.requires.added.keys (omega arith) key_at (place_of_key o added j f at_j));
      carried = subst (λ es. IsCarriedAt g.K.Key.order (c.args.old.now.stored ++ c.args.added.now.stored) c.args.moved.now (take c.in_ok-from.from old) es c.carry_to_key.new.index.entries) (sym more)
          (done.carried c.args.added.now.stored (take at added) stored_at i.before (above-before o added at (key, rows) c.requires.added.keys entry) i.carried);
    }

pub returns : goal.returns
returns g c =
    let old = c.args.old.now.entries in
    let added = c.args.added.now.entries in
    let keys = ap length c.keys-keys.ensures.keys ∙ length-keys_of added in
    let all = ap length c.keys-2.ensures.keys ∙ length-keys_of old in
    let last = c.in_ok-carry.ensures.carried c.args.added.now.stored (take c.adding.at added) c.adding.invariant.before c.adding.invariant.carried in
    let of_old : take c.len.result old ≡ old = take_all c.len.result old (omega (arith, all, c.len.ensures)) in
    let of_added : take c.adding.at added ≡ added = take_all c.adding.at added (omega (arith, keys, c.adding-test.false)) in
    subst (λ os. IsCarriedAt g.K.Key.order (c.args.old.now.stored ++ c.args.added.now.stored) c.args.moved.now os added c.carry.new.self.entries) of_old
    (subst (λ es. IsCarriedAt g.K.Key.order (c.args.old.now.stored ++ c.args.added.now.stored) c.args.moved.now (take c.len.result old) es c.carry.new.self.entries) of_added last)
