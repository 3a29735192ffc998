-- The JSON value of a body that is UTF-8, and of one that is not.
use Rattle.std.proofs.Common.{◌≡◌, ℕ, List, Bool, true, false, Option, None, refl, cond}
use Rattle.std.specs.Str.{is_utf8, IsUtf8}
use Rattle.std.proofs.lemmas.Str.{is_utf8-from_IsUtf8, IsUtf8-from_is_utf8}
use Rattle.serde_json.specs.Data.{Data}
use Rattle.serde_json.specs.Read.{read}
use Rattle.sc_json.specs.Bodies.{json_of}

pub json_of_text : (body : List ℕ) → IsUtf8 body → json_of body ≡ read body
json_of_text body h = rw (is_utf8-from_IsUtf8 body h)

none_at : (body : List ℕ) (b : Bool) (found : Option Data) → is_utf8 body ≡ b → (IsUtf8 body → ⊥) → cond b found None ≡ None
none_at body true found e not_text = absurd (not_text (IsUtf8-from_is_utf8 body e))
none_at body false found e not_text = refl

pub json_of_other : (body : List ℕ) → (IsUtf8 body → ⊥) → json_of body ≡ None
json_of_other body not_text = none_at body _ _ refl not_text
