-- What a text is, however it is kept.
use Rattle.std.specs.Prelude.{ℕ, List}
use Rattle.std.specs.Arc.{arc_value}
use Rattle.std.specs.String.{string_bytes}
use Rattle.sc_values.specs.declared.text.Kept.{Kept}
use Rattle.sc_values.specs.declared.text.Kept.TheVariants as kept

-- the bytes of a text
abbrev pub text_bytes : Kept → List ℕ
text_bytes (kept.Short short) = short
text_bytes (kept.Small small) = (arc_value small).bytes
text_bytes (kept.Medium medium) = (arc_value medium).bytes
text_bytes (kept.Large large) = (arc_value large).bytes
text_bytes (kept.Huge huge) = (arc_value huge).bytes
text_bytes (kept.Long long) = string_bytes (arc_value long)
