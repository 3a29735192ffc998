-- What is read of a member fits the field of its name.
use Rattle.std.proofs.Common.{◌≡◌, ℕ, ℤ, Bool, true, false, ◌||◌, cond, List, [], ◌∷◌, length, codes, Option, Some, None, option_map, refl, subst, arith}
use Rattle.std.specs.Bool.{nat_lt, nat_le}
use Rattle.std.specs.Option.{IfSome}
use Rattle.std.specs.List.{list_all}
use Rattle.std.specs.Str.{bytes_eq}
use Rattle.std.proofs.lemmas.Bool.Decides.{nat_tests}
use Rattle.std.proofs.lemmas.Option.{option_and_then_some, cond_some}
use Rattle.sc_values.specs.Fields.{kind_of, fits_kind, fits_count, IsField}
use Rattle.sc_record.specs.Orders.{is_int, fits_amount, fits_change}
use Rattle.sc_values.specs.declared.value.Kind.{Kind}
use Rattle.sc_values.specs.declared.value.Kind.TheVariants as kinds
use Rattle.sc_values.specs.declared.value.Value.{Value}
use Rattle.sc_values.specs.declared.value.Value.TheVariants as values
use Rattle.sc_record.specs.declared.order.How.{How}
use Rattle.sc_record.specs.declared.order.How.TheVariants as hows
use Rattle.sc_schema.specs.Values.{text_value, number_of, flag_of, int_value, value_of, values_in, given, within_count, values_for, not_empty, some_values_for, fitting_amount, amount_for, how_of_value}
use Rattle.sc_schema.specs.Documents.{set_field}
use Rattle.sc_schema.specs.declared.raw.RawOne.{RawOne}
use Rattle.sc_schema.specs.declared.raw.RawFlat.{RawFlat}
use Rattle.sc_schema.specs.declared.raw.RawFlat.TheVariants as flats
use Rattle.sc_schema.specs.declared.raw.RawValue.{RawValue}
use Rattle.sc_schema.specs.declared.raw.RawValue.TheVariants as raws

-- what is mapped comes of something
pub mapped : {A B P : Type 0} (f : A → B) (o : Option A) (y : B) → option_map f o ≡ Some y
    → ((x : A) → o ≡ Some x → f x ≡ y → P) → P
mapped f None y h then = cc
mapped f (Some x) y h then = then x refl cc

-- a value that is read is of the kind
fits_int : (n : ℤ) (small : Bool) (v : Value) → cond small (Some (values.Int n)) None ≡ Some v
    → fits_kind kinds.Int v ≡ true
fits_int n true v h = let e : values.Int n ≡ v = cc in subst (λ (w : Value). fits_kind kinds.Int w ≡ true) e refl
fits_int n false v h = cc

value-fits : (kind : Kind) (one : RawOne) (v : Value) → value_of kind one ≡ Some v → fits_kind kind v ≡ true
value-fits kinds.Str one v h =
    mapped values.Text (text_value one) v h (λ x was e. subst (λ (w : Value). fits_kind kinds.Str w ≡ true) e refl)
value-fits kinds.Int one v h = option_and_then_some int_value (number_of one) v h (λ n was e. fits_int n (is_int n) v e)
value-fits kinds.Long one v h =
    mapped values.Long (number_of one) v h (λ x was e. subst (λ (w : Value). fits_kind kinds.Long w ≡ true) e refl)
value-fits kinds.Flag one v h =
    mapped values.Flag (flag_of one) v h (λ x was e. subst (λ (w : Value). fits_kind kinds.Flag w ≡ true) e refl)
value-fits kinds.Words one v h =
    mapped values.Text (text_value one) v h (λ x was e. subst (λ (w : Value). fits_kind kinds.Words w ≡ true) e refl)

-- so is each of several
values-fit : (kind : Kind) (list : List RawOne) (vs : List Value) → values_in kind list ≡ Some vs
    → list_all (fits_kind kind) vs ≡ true
values-fit kind [] vs h =
    let e : [] ≡ vs = cc in subst (λ (ws : List Value). list_all (fits_kind kind) ws ≡ true) e refl
values-fit kind (one ∷ list) vs h =
    option_and_then_some (λ value. option_map (λ more. value ∷ more) (values_in kind list)) (value_of kind one) vs h
    (λ v was e. mapped (λ more. v ∷ more) (values_in kind list) vs e
    (λ more read same. subst (λ (ws : List Value). list_all (fits_kind kind) ws ≡ true) same
    (rw (value-fits kind one v was) (values-fit kind list more read))))

-- the values of a field are of its kind, and as many as it may have
pub AreFor : Kind → Bool → List Value → Type 0
AreFor kind many vs = (list_all (fits_kind kind) vs ≡ true) × (many || nat_le (length vs) 1 ≡ true)

within : (many : Bool) (few : Bool) (ws vs : List Value) → cond (many || few) (Some ws) None ≡ Some vs
    → (ws ≡ vs) × (many || few ≡ true)
within true few ws vs h = (cc, refl)
within false true ws vs h = (cc, refl)
within false false ws vs h = cc

pub for-field : (kind : Kind) (many : Bool) (flat : RawFlat) (vs : List Value) → values_for kind many flat ≡ Some vs
    → AreFor kind many vs
unfolding AreFor
for-field kind many flat vs h =
    option_and_then_some (within_count many) (values_in kind (given flat)) vs h
    (λ ws read e. let w = within many (nat_le (length ws) 1) ws vs e in
    subst (AreFor kind many) w.0 (values-fit kind (given flat) ws read, w.1))

some-for : (kind : Kind) (many : Bool) (flat : RawFlat) (vs : List Value) → some_values_for kind many flat ≡ Some vs
    → AreFor kind many vs
some-for kind many flat vs h =
    option_and_then_some not_empty (values_for kind many flat) vs h
    (λ ws read e. subst (AreFor kind many) (cond_some (nat_lt 0 (length ws)) ws vs e).1
    (for-field kind many flat ws read))

-- a change that is read fits the kind, and a field that it makes has as many values as it may
pub record FitsKind (kind : Kind) (many : Bool) (how : How) : Type 0 where
  pub change : fits_change (Some (kind, many)) how ≡ true
  pub field : (name : List ℕ) → kind_of name ≡ Some (kind, many) → IfSome (set_field name how) IsField

-- the number of values that a field has
counted : (many : Bool) (v : Value) (vs : List Value) → many || nat_le (length (v ∷ vs)) 1 ≡ true
    → fits_count many (length (v ∷ vs)) ≡ true
counted true v vs h = grind (arith, nat_tests)
counted false v vs h = grind (arith, nat_tests)

set-field : (kind : Kind) (many : Bool) (vs : List Value) → AreFor kind many vs → (name : List ℕ)
    → kind_of name ≡ Some (kind, many) → IfSome (set_field name (hows.Set vs)) IsField
unfolding AreFor
set-field kind many [] fit name h = tt
set-field kind many (v ∷ vs) fit name h = rw (h, fit.0) (counted many v vs fit.1)

set-fits : (kind : Kind) (many : Bool) (vs : List Value) → AreFor kind many vs → FitsKind kind many (hows.Set vs)
unfolding AreFor
set-fits kind many vs fit = record { change = fit.0; field = set-field kind many vs fit }

-- the number that is added fits
amount-fits : (kind : Kind) (many : Bool) (flat : RawFlat) (n : ℤ) → amount_for kind many flat ≡ Some n
    → fits_amount kind many n ≡ true
amount-fits kind many (flats.Many list) n h = cc
amount-fits kind many (flats.One one) n h =
    option_and_then_some (fitting_amount kind many) (number_of one) n h
    (λ m was e. let w = cond_some (fits_amount kind many m) m n e in
    subst (λ (k : ℤ). fits_amount kind many k ≡ true) w.1 w.0)

-- the changes by their names
sets : (kind : Kind) (many : Bool) (flat : RawFlat) (how : How)
    → option_map hows.Set (values_for kind many flat) ≡ Some how → FitsKind kind many how
sets kind many flat how h =
    mapped hows.Set (values_for kind many flat) how h
    (λ vs read e. subst (FitsKind kind many) e (set-fits kind many vs (for-field kind many flat vs read)))

incs : (kind : Kind) (many : Bool) (flat : RawFlat) (how : How)
    → option_map hows.Inc (amount_for kind many flat) ≡ Some how → FitsKind kind many how
incs kind many flat how h =
    mapped hows.Inc (amount_for kind many flat) how h
    (λ n read e. subst (FitsKind kind many) e
    (record { change = amount-fits kind many flat n read; field = λ name named. tt }))

adds : (kind : Kind) (many : Bool) (flat : RawFlat) (how : How) (make : List Value → How)
    → ((vs : List Value) → AreFor kind many vs → FitsKind kind many (make vs))
    → option_map make (some_values_for kind many flat) ≡ Some how → FitsKind kind many how
adds kind many flat how make fit h =
    mapped make (some_values_for kind many flat) how h
    (λ vs read e. subst (FitsKind kind many) e (fit vs (some-for kind many flat vs read)))

added : (kind : Kind) (many : Bool) (vs : List Value) → AreFor kind many vs → FitsKind kind many (hows.Add vs)
unfolding AreFor
added kind many vs fit = record { change = fit.0; field = λ name named. tt }

added-distinct : (kind : Kind) (many : Bool) (vs : List Value) → AreFor kind many vs
    → FitsKind kind many (hows.AddDistinct vs)
unfolding AreFor
added-distinct kind many vs fit = record { change = fit.0; field = λ name named. tt }

removed : (kind : Kind) (many : Bool) (vs : List Value) → AreFor kind many vs → FitsKind kind many (hows.Remove vs)
unfolding AreFor
removed kind many vs fit = record { change = fit.0; field = λ name named. tt }

named : (a b c d e : Bool) (kind : Kind) (many : Bool) (flat : RawFlat) (how : How)
    → cond a (option_map hows.Set (values_for kind many flat))
    (cond b (option_map hows.Add (some_values_for kind many flat))
    (cond c (option_map hows.AddDistinct (some_values_for kind many flat))
    (cond d (option_map hows.Remove (some_values_for kind many flat))
    (cond e (option_map hows.Inc (amount_for kind many flat)) None)))) ≡ Some how → FitsKind kind many how
named true b c d e kind many flat how h = sets kind many flat how h
named false true c d e kind many flat how h = adds kind many flat how hows.Add (added kind many) h
named false false true d e kind many flat how h = adds kind many flat how hows.AddDistinct (added-distinct kind many) h
named false false false true e kind many flat how h = adds kind many flat how hows.Remove (removed kind many) h
named false false false false true kind many flat how h = incs kind many flat how h
named false false false false false kind many flat how h = cc

-- what a member does fits the kind of its field
pub how-fits : (kind : Kind) (many : Bool) (value : RawValue) (how : How) → how_of_value kind many value ≡ Some how
    → FitsKind kind many how
how-fits kind many (raws.Plain flat) how h = sets kind many flat how h
how-fits kind many (raws.Change name flat) how h =
    named (bytes_eq name (codes "set")) (bytes_eq name (codes "add")) (bytes_eq name (codes "add-distinct"))
    (bytes_eq name (codes "remove")) (bytes_eq name (codes "inc")) kind many flat how h
