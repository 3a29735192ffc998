-- The first slice that has the id stands at the place.
use Rattle.std.proofs.Common.{◌≢◌, ◌∙◌, All, sym, ap, subst, rules, arith}
use Rattle.std.specs.Option.{option_copied}
use Rattle.std.proofs.lemmas.List.{take_all}
use Rattle.sc_cluster.specs.declared.slice.Slice.{Slice}
use Rattle.sc_board.proofs.NamedLemmas.{none_more}
use Rattle.sc_board.proofs.board.Board.place_of.Goals as goal

pub returns-then-eq : goal.returns-then-eq
returns-then-eq g c =
    (c.unwrap-slice.result.now, sym c.get.ensures.slice ∙ ap option_copied c.unwrap-slice.ensures, search rules)

pub loop-at-preserved : goal.loop-at-preserved
loop-at-preserved g c =
    none_more c.args.self.now.map c.args.id c.loop-at.at c.unwrap-slice.result.now
    (sym c.get.ensures.slice ∙ ap option_copied c.unwrap-slice.ensures) (search rules) c.loop-at.invariant

pub returns : goal.returns
returns g c =
    subst (All (λ (slice : Slice). slice.id ≢ c.args.id)) (take_all c.loop-at.at c.args.self.now.map (omega (arith, c.loop-at-test.false, c.len-at-end.ensures)))
    c.loop-at.invariant
