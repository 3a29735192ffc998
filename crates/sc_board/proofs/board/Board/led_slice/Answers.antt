-- The slice of the name is active while no split runs and there is room for the entry, or the first cause that holds is told.
use Rattle.std.proofs.Common.{◌≡◌, ◌≢◌, ◌∙◌, ℕ, List, [], Option, Some, refl, sym, ap, subst, rules}
use Rattle.std.specs.Prelude.{MatchOption}
use Rattle.std.specs.Option.{option_copied}
use Rattle.sc_cluster.specs.declared.slice.State.TheVariants as states
use Rattle.sc_cluster.specs.Slices.{forming}
use Rattle.sc_board.specs.Splits.{slice_named, IsRunningOf, board_basis}
use Rattle.sc_board.proofs.NamedLemmas.{named_there}
use Rattle.sc_board.proofs.CauseLemmas.{running_lead, not_active_lead}
use Rattle.sc_board.proofs.board.Board.led_slice.Goals as goal

pub returns-in-Some-2-clause-refused : goal.returns-in-Some-2-clause-refused
returns-in-Some-2-clause-refused g c =
    let it = c.args.self.now in
    let slice = c.in-Some.slice.now in
    let name = c.args.shard.now in
    let named : slice_named it.map name ≡ Some slice = sym c.named.ensures ∙ ap option_copied c.in-Some.is in
    let running : IsRunningOf it.map c.in-Some-2.shard =
    subst (λ (n : Option (List ℕ)). MatchOption n (forming it.map ≡ []) (IsRunningOf it.map)) c.in-Some-2.is c.in_ok-shard.ensures in
    running_lead (board_basis it) it.journal.entries name c.in-Some-2.shard slice
    (subst (λ s. slice_named s name ≡ Some slice) c.requires.map_is named)
    (subst (λ s. IsRunningOf s c.in-Some-2.shard) c.requires.map_is running)

pub returns-then-ne-clause-refused : goal.returns-then-ne-clause-refused
returns-then-ne-clause-refused g c =
    let it = c.args.self.now in
    let slice = c.in-Some.slice.now in
    let name = c.args.shard.now in
    let named : slice_named it.map name ≡ Some slice = sym c.named.ensures ∙ ap option_copied c.in-Some.is in
    let idle : forming it.map ≡ [] = search rules in
    let other : slice.state ≢ states.Active = search rules in
    not_active_lead (board_basis it) it.journal.entries name slice.state slice
    (subst (λ s. slice_named s name ≡ Some slice) c.requires.map_is named) (ap forming (sym c.requires.map_is) ∙ idle) refl other

pub returns-clause-slice : goal.returns-clause-slice
returns-clause-slice g c =
    let it = c.args.self.now in
    let slice = c.in-Some.slice.now in
    let name = c.args.shard.now in
    let named : slice_named it.map name ≡ Some slice = sym c.named.ensures ∙ ap option_copied c.in-Some.is in
    let here = subst (λ s. slice_named s name ≡ Some slice) c.requires.map_is named in
    let idle : forming it.map ≡ [] = search rules in
    let active : slice.state ≡ states.Active = search rules in (
      slice,
      here,
      (
        refl,
        λ replica counted within. record {
          idle = ap forming (sym c.requires.map_is) ∙ idle;
          slice = slice;
          there = named_there _ name slice here;
          named = refl;
          active = active;
          counted = counted;
          within = within;
        },
      ),
    )
