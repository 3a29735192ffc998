-- One entry more stands in front of what is left, and where none was read the body is none.
use Rattle.std.proofs.Common.{◌≡◌, ◌∙◌, ◌++◌, ◌∷◌, ◌<◌, [], List, length, map, sym, ap, subst, arith, rules}
use Rattle.std.specs.Prelude.{All}
use Rattle.std.proofs.lemmas.Grind.{common_steps}
use Rattle.std.proofs.lemmas.List.{map-append}
use Rattle.std.proofs.lemmas.List.Elements.{All-push}
use Rattle.sc_frames.specs.Stored.{Stored, stored}
use Rattle.sc_frames.specs.Entries.{AreEntries}
use Rattle.sc_journal.specs.Computed.{HasComputed}
use Rattle.sc_frames.specs.declared.fault.BodyFault.TheVariants.{NotEntries}
use Rattle.sc_frames.proofs.EntryLemmas.{entry_takes}
use Rattle.sc_frames.proofs.BodyLemmas.{AreFirst, first_more, none_more, none_of}
use Rattle.sc_frames.proofs.read.read_body.Goals as goal

pub returns-then-is_empty-clause-refused : goal.returns-then-is_empty-clause-refused
returns-then-is_empty-clause-refused c =
    let empty : length c.args.body.now ≡ 0 = first_of (search rules, grind (arith, common_steps)) in
    λ same entries are. none_of c.args.body.now entries empty are

pub returns-in_err-entry-clause-refused : goal.returns-in_err-entry-clause-refused
returns-in_err-entry-clause-refused c =
    let some : 0 < length c.loop-rest.rest.now = first_of (search rules, grind (arith, common_steps)) in
    let none : c.in_err-entry.field-0.0 ≡ NotEntries → (entries : List Stored) → AreEntries c.args.body.now entries → ⊥ =
    λ same. none_more c.args.body.now (map stored c.loop-rest.entries) c.loop-rest.rest.now c.loop-rest.invariant.1 some (c.in_err-entry.ensures.read same) in
    first_of (search rules, grind (arith, common_steps))

pub loop-rest-smaller : goal.loop-rest-smaller
loop-rest-smaller c =
    let shorter = entry_takes c.loop-rest.rest.now (stored c.in_ok-entry.entry, c.in_ok-entry.after.now) c.loop-rest.invariant.1.takes.rest_fits c.in_ok-entry.ensures.read in
    omega (arith, shorter.shorter)

pub loop-rest-preserved : goal.loop-rest-preserved
loop-rest-preserved c =
    let grown : map stored c.push.new.self ≡ map stored c.loop-rest.entries ++ stored c.in_ok-entry.entry ∷ [] =
    ap (map stored) c.in_ok-push.ensures.ok ∙ map-append stored c.loop-rest.entries (c.in_ok-entry.entry ∷ []) in
    let first = first_more c.args.body.now (map stored c.loop-rest.entries) c.loop-rest.rest.now (stored c.in_ok-entry.entry, c.in_ok-entry.after.now)
    c.loop-rest.invariant.1 c.in_ok-entry.ensures.read in (
      c.loop-rest.invariant.0,
      subst (λ (l : List Stored). AreFirst c.args.body.now l c.in_ok-entry.after.now) (sym grown) first,
      subst (All HasComputed) (sym c.in_ok-push.ensures.ok) (All-push HasComputed c.loop-rest.entries c.in_ok-entry.entry c.loop-rest.invariant.2 c.in_ok-entry.ensures.computed),
    )
