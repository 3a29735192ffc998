-- A document that is read is spelled so, what is spelled so is read again, and so bytes spell one document at most.
use Rattle.std.proofs.Common.{◌≡◌, ℕ, ◌^◌, true, List, [], ◌∷◌, ◌++◌, length, Option, Some, None, refl, sym, ap, ◌∙◌, append_assoc, arith}
use Rattle.std.specs.Prelude.{IfSome}
use Rattle.std.specs.Int.{w32, to_le_bytes}
use Rattle.std.specs.List.{flat_map, AllByRecursion}
use Rattle.std.specs.Ordering.{nat_cmp}
use Rattle.std.specs.declared.cmp.Ordering.TheVariants.{Less}
use Rattle.std.specs.Cmp.Lexicographic.{slice_cmp}
use Rattle.sc_values.specs.declared.value.Value.{Value}
use Rattle.sc_values.specs.declared.field.Field.{Field}
use Rattle.sc_values.specs.Fields.{kind_of, fits_name, IsField, IsBelowFirst, IsDocument}
use Rattle.sc_spelling.specs.Spellings.{spelling_of_field, spelling}
use Rattle.sc_spelling.specs.Reading.{◌>>=◌, Gives, number_at, fields_at, document_at}
use Rattle.sc_spelling.proofs.NumberLemmas.{IsBytes, bind_some, some_is, Takes-then, wide32, number_takes, number_again}
use Rattle.sc_spelling.proofs.FieldLemmas.{fields_take, fields_again}

-- the name of a field isn't empty
named : (name : List ℕ) (vs : List Value) → fits_name (kind_of name) vs ≡ true → slice_cmp nat_cmp [] name ≡ Less
unfolding kind_of
named [] vs h = absurd cc
named (b ∷ name) vs h = refl

first_named : (fs : List Field) → AllByRecursion IsField fs → IsBelowFirst [] fs
first_named [] each = tt
first_named (f ∷ fs) each = named f.name f.values each.0

-- a document that is read is spelled in front
pub document_takes : (bytes : List ℕ) (x : List Field × List ℕ) → IsBytes bytes → document_at bytes ≡ Some x → IsDocument x.0 × (bytes ≡ spelling x.0 ++ x.1)
unfolding document_at
document_takes bytes x fits e =
    let a = bind_some (number_at w32 bytes) (λ count. fields_at [] count.0 count.1) x e in
    let t = number_takes w32 (2 ^ 32) wide32 bytes a.0.0 a.0.1 fits a.1 in
    let fs = fields_take [] a.0.0 a.0.1 x t.0.rest_fits a.2 in
    let both = Takes-then bytes (to_le_bytes w32 a.0.0) a.0.1 (flat_map spelling_of_field x.0) x.1 t.0 fs.takes in (
      record {
        each = fs.each;
        ascends = fs.ascends;
        fits = record { count = omega (arith, t.1, fs.many); each = fs.fits };
      },
      both.parts ∙ ap (λ (k : ℕ). (to_le_bytes w32 k ++ flat_map spelling_of_field x.0) ++ x.1) (sym fs.many),
    )

-- a document that is spelled in front is read
pub document_again : (fs : List Field) (more : List ℕ) → IsDocument fs → document_at (spelling fs ++ more) ≡ Some (fs, more)
unfolding document_at
document_again fs more h =
    ap document_at (append_assoc (to_le_bytes w32 (length fs)) (flat_map spelling_of_field fs) more)
    ∙ ap (λ (t : Option (ℕ × List ℕ)). t >>= λ t. fields_at [] t.0 t.1) (number_again w32 (2 ^ 32) wide32 (length fs) (flat_map spelling_of_field fs ++ more) h.fits.count)
    ∙ fields_again [] fs more h.each (first_named fs h.each) h.ascends h.fits.each

-- what was found is spelled there
pub is_found : {R : Type 0} (view : R → List Field × List ℕ) (bytes : List ℕ) (r : Option R) → IsBytes bytes → Gives view r (document_at bytes)
    → IfSome r (λ x. IsDocument (view x).0 × (bytes ≡ spelling (view x).0 ++ (view x).1))
is_found view bytes None fits given = tt
is_found view bytes (Some x) fits given = document_takes bytes (view x) fits given

-- where nothing was found nothing is spelled
pub is_none : {R : Type 0} (view : R → List Field × List ℕ) (bytes : List ℕ) (r : Option R) → Gives view r (document_at bytes) → r ≡ None
    → (fs : List Field) (more : List ℕ) → IsDocument fs → bytes ≡ spelling fs ++ more → ⊥
is_none view bytes None given none fs more h e = let again : document_at bytes ≡ Some (fs, more) = ap document_at e ∙ document_again fs more h in absurd (cc)
is_none view bytes (Some x) given none fs more h e = absurd (cc)

-- bytes begin with one spelling at most
pub one_reading : (a b : List Field) (x y : List ℕ) → IsDocument a → IsDocument b → spelling a ++ x ≡ spelling b ++ y → (a ≡ b) × (x ≡ y)
one_reading a b x y h k e =
    let same = some_is (a, x) (b, y) (sym (document_again a x h) ∙ ap document_at e ∙ document_again b y k) in
    (ap (λ (p : List Field × List ℕ). p.0) same, ap (λ (p : List Field × List ℕ). p.1) same)
