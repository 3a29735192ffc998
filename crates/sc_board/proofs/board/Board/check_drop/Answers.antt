-- The slice of the name is inactive while no split runs, or the first cause that holds is told.
use Rattle.std.proofs.Common.{◌≡◌, ◌∙◌, [], Some, refl, sym, ap, rules}
use Rattle.std.specs.Option.{option_copied}
use Rattle.sc_cluster.specs.Slices.{forming}
use Rattle.sc_cluster.specs.Changes.{Change, MayChange}
use Rattle.std.proofs.Common.{subst}
use Rattle.sc_board.specs.Splits.{slice_named}
use Rattle.sc_board.proofs.NamedLemmas.{named_there}
use Rattle.sc_board.proofs.CauseLemmas.{not_inactive_drop}
use Rattle.sc_board.proofs.board.Board.check_drop.Goals as goal

pub returns-in-Inactive-clause-slice : goal.returns-in-Inactive-clause-slice
returns-in-Inactive-clause-slice g c = (c.in-Some.slice.now, sym c.named.ensures ∙ ap option_copied c.in-Some.is, refl)

pub returns-in-Inactive-clause-may : goal.returns-in-Inactive-clause-may
returns-in-Inactive-clause-may g c =
    let slice = c.in-Some.slice.now in
    let slices = c.args.self.now.map in
    let named : slice_named slices c.args.shard.now ≡ Some slice = sym c.named.ensures ∙ ap option_copied c.in-Some.is in
    let idle : forming slices ≡ [] = search rules in
    let may : MayChange slices (Change.Dropped slice.id) =
    (idle, (slice, named_there slices c.args.shard.now slice named, refl, c.in-Inactive.is)) in
    subst (λ s. MayChange s (Change.Dropped slice.id)) c.requires.map_is may

pub returns-in_default-state : goal.returns-in_default-state
returns-in_default-state g c =
    let slice = c.in-Some.slice.now in
    let slices = c.args.self.now.map in
    let named : slice_named slices c.args.shard.now ≡ Some slice = sym c.named.ensures ∙ ap option_copied c.in-Some.is in
    let idle : forming slices ≡ [] = search rules in
    record {
      slice = tt;
      may = tt;
      allowed = tt;
      refused = not_inactive_drop slices c.args.shard.now slice.state slice named idle refl c.in_default-state.not-Inactive;
    }
