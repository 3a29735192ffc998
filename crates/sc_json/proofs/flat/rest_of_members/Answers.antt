-- An object with no member has no field. The first member alone is its field, and the others follow.
use Rattle.std.proofs.Common.{◌≡◌, ◌-◌, ◌++◌, ◌∷◌, [], length, Some, None, refl, sym, ap, ◌∙◌, arith}
use Rattle.std.proofs.lemmas.Result.{IfOk-weaker}
use Rattle.json.specs.Json.{parse_map, read_key, value}
use Rattle.json.proofs.Grammar.{read_key-shorter}
use Rattle.serde_json.specs.Data.{no_members, put}
use Rattle.serde_json.specs.Read.{of_json, converted}
use Rattle.sc_json.specs.Flat.{member_depth}
use Rattle.sc_json.specs.RawDocs.{raw_value, raw_fields}
use Rattle.sc_json.proofs.PlaceLemmas.{none_ascend, put_field, ascend_field}
use Rattle.sc_json.proofs.TurnLemmas.{said_of, member_read, members_over}
use Rattle.sc_json.proofs.flat.rest_of_members.Goals as goal

pub returns-in_default-clause-value : goal.returns-in_default-clause-value
returns-in_default-clause-value c =
    let r = c.args.reader.now in
    let rest = c.next_key.new.self in
    let closed : read_key r ≡ Some (None, rest) = grind arith in
    ap (parse_map raw_fields) (members_over (value member_depth) no_members (length r) r rest (omega arith) closed)
    ∙ ap (λ fields. Some (fields, rest)) (sym c.new.ensures)

pub invariant_of-result : goal.invariant_of-result
invariant_of-result c = record { ascend = none_ascend c.new.result c.new.ensures }

pub with_members-requires : goal.with_members-requires
with_members-requires c =
    let field = c.in_ok-field.field in
    let one = c.in_ok-push.ensures.items ∙ ap (λ fields. fields ++ field ∷ []) c.in_ok-fields.ensures.items in
    ascend_field c.in-Some.name.now 0 [] c.push.new.self.items field.name field.value (none_ascend [] refl) c.in_ok-field.ensures.named (tt, tt) one

pub returns-clause-value : goal.returns-clause-value
returns-clause-value c =
    let k = c.in-Some.name.now in
    let ts = c.args.reader.now in
    let s = c.next_key.new.self in
    let named : read_key ts ≡ Some (Some k, s) = grind arith in
    let done = c.in_ok-field.ensures in
    let field = c.in_ok-field.field in
    let r = c.next_field.new.reader in
    let d = said_of raw_value (converted of_json (value member_depth s)) field.value r done.value in
    let less = read_key-shorter ts (Some k) s named in
    let lesser = done.shorter in
    let one = c.in_ok-push.ensures.items ∙ ap (λ fields. fields ++ field ∷ []) c.in_ok-fields.ensures.items in
    let first = put_field k d.0 no_members 0 [] c.push.new.self.items field.name field.value refl d.2 done.named (tt, tt) one in
    let read = ap (parse_map raw_fields) (member_read (value member_depth) no_members (length ts) k ts s r d.0 (omega arith) named d.1) in
    IfOk-weaker c.with_members.result _ _ (λ doc e. read ∙ e) (c.with_members.ensures.value (put k d.0 no_members) (length ts - 1) first (omega arith))
