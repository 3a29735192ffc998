-- The slice of the name is active while no split runs, or the first cause that holds is told.
use Rattle.std.proofs.Common.{◌≡◌, ◌∙◌, ℕ, List, [], Option, Some, refl, sym, ap, subst, rules}
use Rattle.std.specs.Prelude.{MatchOption}
use Rattle.std.specs.Option.{option_copied}
use Rattle.sc_cluster.specs.Slices.{forming}
use Rattle.sc_board.specs.Splits.{slice_named, IsRunningOf, board_basis, asked_for}
use Rattle.sc_board.proofs.CauseLemmas.{running_first, not_active_first}
use Rattle.sc_board.proofs.board.Board.parent_of.Goals as goal

pub returns-in-Some-2-clause-refused : goal.returns-in-Some-2-clause-refused
returns-in-Some-2-clause-refused g c cut =
    let it = c.args.self.now in
    let slice = c.in-Some.slice.now in
    let name = c.args.shard.now in
    let named : slice_named it.map name ≡ Some slice = sym c.named.ensures ∙ ap option_copied c.in-Some.is in
    let running : IsRunningOf it.map c.in-Some-2.shard =
    subst (λ (n : Option (List ℕ)). MatchOption n (forming it.map ≡ []) (IsRunningOf it.map)) c.in-Some-2.is c.in_ok-shard.ensures in
    running_first (board_basis it) it.journal.entries (asked_for name cut) c.in-Some-2.shard slice
    (subst (λ s. slice_named s name ≡ Some slice) c.requires.map_is named)
    (subst (λ s. IsRunningOf s c.in-Some-2.shard) c.requires.map_is running)

pub returns-in_default-state : goal.returns-in_default-state
returns-in_default-state g c =
    let it = c.args.self.now in
    let slice = c.in-Some.slice.now in
    let name = c.args.shard.now in
    let named : slice_named it.map name ≡ Some slice = sym c.named.ensures ∙ ap option_copied c.in-Some.is in
    let idle : forming it.map ≡ [] = search rules in
    record {
      found = tt;
      refused = λ cut. not_active_first (board_basis it) it.journal.entries (asked_for name cut) slice.state slice
          (subst (λ s. slice_named s name ≡ Some slice) c.requires.map_is named) (ap forming (sym c.requires.map_is) ∙ idle) refl
          c.in_default-state.not-Active;
    }
