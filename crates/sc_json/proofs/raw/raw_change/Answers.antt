-- An object of one member is a change, and any other is none.
use Rattle.std.proofs.Common.{◌≡◌, string_bytes, sym, ◌∙◌}
use Rattle.serde_json.specs.View.{view}
use Rattle.sc_json.specs.RawDocs.{raw_flat}
use Rattle.sc_json.proofs.RawLemmas.{no_change, one_change}
use Rattle.sc_json.proofs.raw.raw_change.Goals as goal

pub returns-then-len-ne1 : goal.returns-then-len-ne1
returns-then-len-ne1 c = sym (no_change c.args.members.now.entries (λ one. c.if-len-ne1.true (c.len.ensures.len ∙ one)))

pub returns-in_ok-raw_flat-in-Some : goal.returns-in_ok-raw_flat-in-Some
returns-in_ok-raw_flat-in-Some c =
    let flat : c.in_ok-raw_flat-in-Some.field-0 ≡ raw_flat (view c.in-Some.value.now) = c.in_ok-raw_flat-in-Some.ensures in
    let name : c.in_ok-new-in-Some.field-0 ≡ string_bytes c.in-Some.op.now = c.in_ok-new-in-Some.ensures ∙ c.as_str.ensures.value in
    rw (flat, name) (sym (one_change c.args.members.now.entries c.in-Some.op.now c.in-Some.value.now (sym c.len.ensures.len ∙ c.if-len-ne1.false) c.in-Some.ensures.first))
