-- A slice less is left after each, and none where there was none.
use Rattle.std.proofs.Common.{◌≡◌, ◌∙◌, ◌-◌, ◌+◌, ◌++◌, ◌∷◌, [], List, None, map, sym, ap, subst, arith, rules}
use Rattle.std.proofs.lemmas.Grind.{common_steps}
use Rattle.std.proofs.lemmas.List.{map-append}
use Rattle.sc_frames.specs.Stored.{StoredSub, stored_sub}
use Rattle.sc_frames.specs.Reading.{subs_at}
use Rattle.sc_frames.specs.declared.fault.BodyFault.TheVariants.{NotEntries}
use Rattle.sc_frames.proofs.SubLemmas.{with_first, subs_on, subs_off, subs_done}
use Rattle.sc_frames.proofs.read.subs_of.Goals as goal

pub returns-in_err-sub : goal.returns-in_err-sub
returns-in_err-sub c =
    let none : c.in_err-sub.field-0.0 ≡ NotEntries → subs_at c.args.count c.args.bytes.now ≡ None =
    λ same. subs_off c.args.count c.loop.counter c.loop.rest.now (map stored_sub c.loop.subs) (subs_at c.args.count c.args.bytes.now)
    c.loop-test.true (c.in_err-sub.ensures same) c.loop.invariant in
    first_of (search rules, grind (arith, common_steps))

pub loop-preserved : goal.loop-preserved
loop-preserved c =
    let grown : map stored_sub c.push.new.self ≡ map stored_sub c.loop.subs ++ stored_sub c.in_ok-sub.sub ∷ [] =
    ap (map stored_sub) c.in_ok-push.ensures.ok ∙ map-append stored_sub c.loop.subs (c.in_ok-sub.sub ∷ []) in
    subst (λ (l : List StoredSub). with_first l (subs_at (c.args.count - (c.loop.counter + 1)) c.in_ok-sub.after.now) ≡ subs_at c.args.count c.args.bytes.now) (sym grown)
    (subs_on c.args.count c.loop.counter c.loop.rest.now (map stored_sub c.loop.subs) (stored_sub c.in_ok-sub.sub, c.in_ok-sub.after.now)
    (subs_at c.args.count c.args.bytes.now) c.loop-test.true c.in_ok-sub.ensures c.loop.invariant)

pub returns : goal.returns
returns c = subs_done c.args.count c.loop.counter c.loop.rest.now (map stored_sub c.loop.subs) (subs_at c.args.count c.args.bytes.now) c.loop-test.false c.loop.invariant
