-- The plan is that of the split that is asked for, or the first cause that holds is told.
use Rattle.std.proofs.Common.{◌≡◌, map, subst, rules, arith}
use Rattle.sc_cluster.specs.Plans.{sub_bounds, IsPlan}
use Rattle.sc_board.specs.Splits.{board_basis, asked_for, cut_ranges, MaySplit, IsPlanOf}
use Rattle.sc_board.proofs.SoundLemmas.{sound_map}
use Rattle.sc_board.proofs.CauseLemmas.{cut_refusal, plan_parts}
use Rattle.sc_board.proofs.board.Board.plan_of.Goals as goal

pub returns-in_err-parent-clause-refused : goal.returns-in_err-parent-clause-refused
returns-in_err-parent-clause-refused g c = search (rules, c.in_err-parent.ensures.refused c.args.cut.now)

pub returns-in_err-check_ranges-clause-refused : goal.returns-in_err-check_ranges-clause-refused
returns-in_err-check_ranges-clause-refused g c =
    let it = c.args.self.now in
    let asked = asked_for c.args.shard.now c.args.cut.now in
    let slice = c.in_ok-parent.parent.now in
    let may = subst (λ s. MaySplit s c.args.shard.now slice) c.requires.sound.map_is c.in_ok-parent.ensures.found in
    search (rules, cut_refusal (board_basis it) it.journal.entries asked slice may _ c.in_err-check_ranges.ensures.refused)

pub overflow_add-len : goal.overflow_add-len
overflow_add-len g c =
    let few = (sound_map c.args.self.now c.requires.sound).few in
    let most = c.requires.cut.most in
    omega (arith, few, most, c.len.ensures, c.parts_of.ensures)

pub returns-clause-plan : goal.returns-clause-plan
returns-clause-plan g c =
    let it = c.args.self.now in
    let asked = asked_for c.args.shard.now c.args.cut.now in
    let slice = c.in_ok-parent.parent.now in
    let may = subst (λ s. MaySplit s c.args.shard.now slice) c.requires.sound.map_is c.in_ok-parent.ensures.found in
    plan_parts c.planned.result (λ plan. plan.parent ≡ slice.id) (λ plan. map sub_bounds plan.subs ≡ cut_ranges c.args.cut.now slice)
    (λ plan. IsPlan it.map plan.parent plan.subs) (IsPlanOf it.first it.journal.entries asked)
    c.planned.ensures.parent c.planned.ensures.ranges c.planned.ensures.plan
    (λ plan parent ranges is. record {
      parent = (slice, may.named, (parent, ranges));
      plan_is = subst (λ s. IsPlan s plan.parent plan.subs) c.requires.sound.map_is is;
    })
