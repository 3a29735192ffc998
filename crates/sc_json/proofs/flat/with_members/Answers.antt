-- Each turn reads one more member and puts it at its place, up to the brace that closes the object.
use Rattle.std.proofs.Common.{◌≡◌, ◌-◌, Some, None, refl, sym, ap, ◌∙◌, subst, arith}
use Rattle.json.specs.Json.{parse_map, read_key, value}
use Rattle.json.proofs.Grammar.{read_key-shorter}
use Rattle.serde_json.specs.Data.{put}
use Rattle.serde_json.specs.Read.{of_json, converted}
use Rattle.sc_schema.specs.Raw.{AscendByName, raw_names}
use Rattle.sc_json.specs.Flat.{member_depth, IsNamePlace}
use Rattle.sc_json.specs.RawDocs.{raw_value, raw_fields}
use Rattle.sc_json.proofs.PlaceLemmas.{put_field, ascend_field}
use Rattle.sc_json.proofs.TurnLemmas.{said_of, member_read, members_over}
use Rattle.sc_json.proofs.flat.with_members.Goals as goal

pub members-init : goal.members-init
members-init c = (c.requires, omega arith, λ first most same enough. (first, most, enough, same, refl))

pub members-preserved : goal.members-preserved
members-preserved c =
    let l = c.members in
    let k = c.in-Some.name.now in
    let s = c.next_key.new.self in
    let named : read_key l.reader ≡ Some (Some k, s) = grind arith in
    let done = c.in_ok-field.ensures in
    let field = c.in_ok-field.field in
    let r = c.next_field.new.reader in
    let d = said_of raw_value (converted of_json (value member_depth s)) field.value r done.value in
    let less = read_key-shorter l.reader (Some k) s named in
    let lesser = done.shorter in
    let at = c.in-Some-place_of.at in
    let place : IsNamePlace k (raw_names l.fields.items) at = rw c.as_slice.ensures.value at c.in-Some-place_of.ensures.place in
    let new = c.insert.new.self.items in
    let more = c.in_ok-insert.ensures.items in (
      ascend_field k at l.fields.items new field.name field.value l.invariant.0 done.named place more,
      omega (arith, l.invariant.1),
      λ first most same enough.
          let so_far = l.invariant.2 first most same enough in
          let ms = so_far.0 in
          let n = so_far.1 in (
            put k d.0 ms,
            n - 1,
            omega (arith, so_far.2),
            put_field k d.0 ms at l.fields.items new field.name field.value so_far.3 d.2 done.named place more,
            so_far.4 ∙ member_read (value member_depth) ms n k l.reader s r d.0 (omega (arith, so_far.2)) named d.1,
          ),
    )

pub returns-clause-value : goal.returns-clause-value
returns-clause-value c first most same enough =
    let l = c.members in
    let rest = c.next_key.new.self in
    let closed : read_key l.reader ≡ Some (None, rest) = grind arith in
    let so_far = l.invariant.2 first most same enough in
    ap (parse_map raw_fields) (so_far.4 ∙ members_over (value member_depth) so_far.0 so_far.1 l.reader rest so_far.2 closed)
    ∙ ap (λ fields. Some (fields, rest)) (so_far.3 ∙ sym c.from_vec.ensures)

pub invariant_of-result : goal.invariant_of-result
invariant_of-result c = record { ascend = subst AscendByName (sym c.from_vec.ensures) c.members.invariant.0 }
