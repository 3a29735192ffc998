-- `put_back`: the note and the step that passes the turn on keep the invariant, and what the seat knows then.
use Rattle.std.proofs.Common.{rules, ap, ◌∙◌, [], refl, subst}
use Rattle.sc_lock.specs.Journal.{ArePlacesIn, places_after}
use Rattle.sc_lock.specs.Views.{with_stage}
use Rattle.sc_lock.specs.Steps.{noted}
use Rattle.sc_lock.specs.declared.view.Stage.TheVariants.{Idle}
use Rattle.sc_lock.proofs.lock.Lock.put_back.Goals as goal
use Rattle.sc_lock.proofs.GiveLemmas.{note_allowed, pass_on_allowed}

pub store-requires : goal.store-requires
store-requires g c =
    let holds = c.requires.holds in
    let laid = c.put_value.ensures.value in
    let long = c.entries-entries.ensures in
    let keeps = note_allowed _ _ _ _ _ _ holds.0 holds.1 c.args.value _ laid holds.2 long holds.4 in
    (search rules, search rules, keeps)

pub fetch_add-requires : goal.fetch_add-requires
fetch_add-requires g c =
    let holds = c.requires.holds in
    let laid = c.put_value.ensures.value in
    let stage = ap (λ z. z.0.stage) laid ∙ holds.2 in
    let shown = c.store.ensures.2 holds.0 holds.1 c.args.value stage (ap (λ z. z.1) laid) in
    let now = shown.0 ∙ (λ k. (noted g.K.Kept (laid k).0 holds.0 holds.1 c.args.value, (laid k).1)) in
    let keeps =
    pass_on_allowed _ _ _ _ _ _ holds.0 _ _ c.args.value now refl holds.4.sound_is refl refl c.requires.named in
    (search rules, search rules, keeps)

pub returns-clause-noted : goal.returns-clause-noted
returns-clause-noted g c t x is =
    let laid = c.put_value.ensures.value in
    let shown = c.store.ensures.2 t x c.args.value (ap (λ z. z.0.stage) laid ∙ is) (ap (λ z. z.1) laid) in
    let now = shown.0 ∙ (λ k. (noted g.K.Kept (laid k).0 t x c.args.value, (laid k).1)) in
    c.fetch_add.ensures.2 ∙ (λ k. (with_stage (now k).0 Idle, []))

pub returns-clause-places : goal.returns-clause-places
returns-clause-places g c t x is =
    let journal = g.K.Kept.journal in
    let laid = c.put_value.ensures.value in
    let shown = c.store.ensures.2 t x c.args.value (ap (λ z. z.0.stage) laid ∙ is) (ap (λ z. z.1) laid) in
    subst (λ places. ArePlacesIn (places_after places (journal x) (journal c.args.value)) (journal c.args.value))
    (ap (λ z. z.0.places) laid) shown.1
