-- Documents that are read a token at a time are those of the value that the text is.
use Rattle.std.proofs.Common.{◌≡◌, ℕ, ◌-◌, ◌<◌, ◌≤◌, List, [], ◌∷◌, ◌++◌, length, Option, Some, None, option_map, option_and_then, refl, sym, ap, ◌∙◌, append_assoc, append-nil}
use Rattle.json.specs.Token.{Token}
use Rattle.json.specs.Lex.{tokens}
use Rattle.json.specs.Json.{parse_map, after_end_array, items, members, value}
use Rattle.json.proofs.Grammar.{value_is, value-begin_array, value-begin_object}
use Rattle.serde_json.specs.Data.{Num, Data, null, boolean, number, string, array, object, Items, item, no_members}
use Rattle.serde_json.specs.Read.{of_json, of_items, of_members, converted, number_of, read}
use Rattle.sc_schema.specs.declared.raw.RawField.{RawField}
use Rattle.sc_schema.specs.declared.raw.RawFlat.TheVariants.{One}
use Rattle.sc_schema.specs.declared.raw.RawOne.{RawOne}
use Rattle.sc_schema.specs.declared.raw.RawOne.TheVariants as ones
use Rattle.sc_schema.specs.declared.raw.RawValue.TheVariants.{Plain}
use Rattle.sc_json.proofs.TurnLemmas.{said_of, converted-array, converted-object, item_read, items_over, whole_read}
use Rattle.sc_json.specs.Flat.{first_doc, docs_in, docs_of, body_depth, next_by, items_by, fields_by, one_of}
use Rattle.sc_json.specs.RawDocs.{raw_number, raw_one, raw_items, raw_value, raw_fields, raw_fields_of}

-- ---- a value that is one token

-- a token is the value that it says
abbrev Says : Token → RawOne → ℕ → List Token → Type 0
Says t one depth ts = (d : Data) × (converted of_json (value depth (t ∷ ts)) ≡ Some (d, ts)) × (raw_one d ≡ one) × (raw_value d ≡ Plain (One one))

number_says : (s : List ℕ) (found : Option Num) (one : RawOne) (depth : ℕ) (ts : List Token) → number_of s ≡ found → option_map raw_number found ≡ Some one → Says (Token.number s) one depth ts
number_says s None one depth ts is e = absurd (cc)
number_says s (Some n) one depth ts is e =
    let same : raw_number n ≡ one = cc in (
      number n,
      ap (converted of_json) (value_is depth (Token.number s ∷ ts)) ∙ ap (λ (o : Option Num). option_map {U = Data × List Token} (λ d. (d, ts)) (option_map number o)) is,
      same,
      ap (λ x. Plain (One x)) same,
    )

says : (t : Token) (one : RawOne) (depth : ℕ) (ts : List Token) → one_of t ≡ Some one → Says t one depth ts
says Token.begin_object one depth ts e = absurd (cc)
says Token.end_object one depth ts e = absurd (cc)
says Token.begin_array one depth ts e = absurd (cc)
says Token.end_array one depth ts e = absurd (cc)
says (Token.key s) one depth ts e = absurd (cc)
says (Token.string s) one depth ts e =
    let same : ones.Text s ≡ one = cc in
    (string s, ap (converted of_json) (value_is depth (Token.string s ∷ ts)), same, ap (λ x. Plain (One x)) same)
says (Token.number s) one depth ts e = number_says s (number_of s) one depth ts refl e
says (Token.boolean b) one depth ts e =
    let same : ones.Flag b ≡ one = cc in
    (boolean b, ap (converted of_json) (value_is depth (Token.boolean b ∷ ts)), same, ap (λ x. Plain (One x)) same)
says Token.null one depth ts e =
    let same : ones.Null ≡ one = cc in
    (null, ap (converted of_json) (value_is depth (Token.null ∷ ts)), same, ap (λ x. Plain (One x)) same)
says Token.bad one depth ts e = absurd (cc)

-- an item
pub one_next : (t : Token) (one : RawOne) (depth : ℕ) (ts : List Token) → one_of t ≡ Some one → next_by raw_one depth (t ∷ ts) ≡ Some (one, ts)
one_next t one depth ts e = let d = says t one depth ts e in ap (parse_map raw_one) d.1 ∙ ap (λ x. Some (x, ts)) d.2

-- a member's value
pub flat_next : (t : Token) (one : RawOne) (depth : ℕ) (ts : List Token) → one_of t ≡ Some one → next_by raw_value depth (t ∷ ts) ≡ Some (Plain (One one), ts)
flat_next t one depth ts e = let d = says t one depth ts e in ap (parse_map raw_value) d.1 ∙ ap (λ x. Some (x, ts)) d.3

-- ---- arrays and objects

-- an array that has begun
pub array_next : {A B : Type 0} (f : Data → A) (g : Items → B) (h : B → A) → ((is : Items) → f (array is) ≡ h (g is)) → (depth : ℕ) (ts : List Token) (found : B) (r : List Token) → 0 < depth
    → items_by g (depth - 1) ts ≡ Some (found, r) → next_by f depth (Token.begin_array ∷ ts) ≡ Some (h found, r)
array_next f g h same depth ts found r some e =
    let all = items (value (depth - 1)) (length ts) ts in
    let is = said_of g (converted of_items all) found r e in
    ap (λ o. parse_map f (converted of_json o)) (value-begin_array depth ts some)
    ∙ ap (parse_map f) (converted-array all ∙ ap (parse_map array) is.1)
    ∙ ap (λ x. Some (x, r)) (same is.0 ∙ ap h is.2)

-- an object that has begun
pub object_next : (depth : ℕ) (ts : List Token) (fields : List RawField) (r : List Token) → 0 < depth → fields_by (depth - 1) ts ≡ Some (fields, r)
    → next_by raw_fields_of depth (Token.begin_object ∷ ts) ≡ Some (Some fields, r)
object_next depth ts fields r some e =
    let all = members (value (depth - 1)) (length ts) ts in
    let ms = said_of raw_fields (converted (λ ms. of_members ms no_members) all) fields r e in
    ap (λ o. parse_map raw_fields_of (converted of_json o)) (value-begin_object depth ts some)
    ∙ ap (parse_map raw_fields_of) (converted-object all ∙ ap (parse_map object) ms.1)
    ∙ ap (λ x. Some (Some x, r)) ms.2

-- ---- the items of an array, one after another

-- what f says of the items that are left, where there are at most n
abbrev pub items_left : {A : Type 0} → (Items → A) → ℕ → ℕ → List Token → Option (A × List Token)
items_left f depth n ts = parse_map f (converted of_items (items (value depth) n ts))

-- the values that were read, and those after them
abbrev pub with_ones : List RawOne → Option (List RawOne × List Token) → Option (List RawOne × List Token)
with_ones found rest = parse_map (λ more. found ++ more) rest

pub no_ones : (rest : Option (List RawOne × List Token)) → rest ≡ with_ones [] rest
no_ones None = refl
no_ones (Some p) = refl

one_grown : (found : List RawOne) (d : Data) (one : RawOne) → raw_one d ≡ one → (o : Option (Items × List Token))
    → with_ones found (parse_map raw_items (parse_map (item d) o)) ≡ with_ones (found ++ one ∷ []) (parse_map raw_items o)
one_grown found d one same None = refl
one_grown found d one same (Some p) =
    ap (λ (ones : List RawOne). Some (ones, p.1)) (ap (λ (x : RawOne). found ++ x ∷ raw_items p.0) same ∙ sym (append_assoc found (one ∷ []) (raw_items p.0)))

pub one_more : (depth n : ℕ) (ts r : List Token) (one : RawOne) (found : List RawOne) → 0 < n → after_end_array ts ≡ None → next_by raw_one depth ts ≡ Some (one, r)
    → with_ones found (items_left raw_items depth n ts) ≡ with_ones (found ++ one ∷ []) (items_left raw_items depth (n - 1) r)
one_more depth n ts r one found some going e =
    let d = said_of raw_one (converted of_json (value depth ts)) one r e in
    ap (λ o. with_ones found (parse_map raw_items o)) (item_read (value depth) n ts r d.0 some going d.1)
    ∙ one_grown found d.0 one d.2 (converted of_items (items (value depth) (n - 1) r))

pub ones_over : (depth n : ℕ) (ts r : List Token) (found : List RawOne) → length ts ≤ n → after_end_array ts ≡ Some r → with_ones found (items_left raw_items depth n ts) ≡ Some (found, r)
ones_over depth n ts r found enough e =
    ap (λ o. with_ones found (parse_map raw_items o)) (items_over (value depth) n ts r enough e) ∙ ap (λ (ones : List RawOne). Some (ones, r)) (append-nil found)

-- ---- the documents of an array, one after another

abbrev pub docs_and : List (List RawField) → Option (List (List RawField)) → Option (List (List RawField))
docs_and found rest = option_map (λ more. found ++ more) rest

-- the documents that were read, and those after them
abbrev pub with_docs : List (List RawField) → Option (Option (List (List RawField)) × List Token) → Option (Option (List (List RawField)) × List Token)
with_docs found rest = parse_map (docs_and found) rest

none_and : (rest : Option (List (List RawField))) → rest ≡ docs_and [] rest
none_and None = refl
none_and (Some more) = refl

pub no_docs : (rest : Option (Option (List (List RawField)) × List Token)) → rest ≡ with_docs [] rest
no_docs None = refl
no_docs (Some p) = ap (λ (docs : Option (List (List RawField))). Some (docs, p.1)) (none_and p.0)

first_and : (found : List (List RawField)) (fields : List RawField) (rest : Option (List (List RawField))) → docs_and found (first_doc (Some fields) rest) ≡ docs_and (found ++ fields ∷ []) rest
first_and found fields None = refl
first_and found fields (Some more) = ap (λ (docs : List (List RawField)). Some docs) (sym (append_assoc found (fields ∷ []) more))

doc_grown : (found : List (List RawField)) (d : Data) (fields : List RawField) → raw_fields_of d ≡ Some fields → (o : Option (Items × List Token))
    → with_docs found (parse_map docs_in (parse_map (item d) o)) ≡ with_docs (found ++ fields ∷ []) (parse_map docs_in o)
doc_grown found d fields same None = refl
doc_grown found d fields same (Some p) =
    ap (λ (docs : Option (List (List RawField))). Some (docs, p.1)) (ap (λ doc. docs_and found (first_doc doc (docs_in p.0))) same ∙ first_and found fields (docs_in p.0))

pub doc_more : (depth n : ℕ) (ts r : List Token) (fields : List RawField) (found : List (List RawField)) → 0 < n → after_end_array ts ≡ None → next_by raw_fields_of depth ts ≡ Some (Some fields, r)
    → with_docs found (items_left docs_in depth n ts) ≡ with_docs (found ++ fields ∷ []) (items_left docs_in depth (n - 1) r)
doc_more depth n ts r fields found some going e =
    let d = said_of raw_fields_of (converted of_json (value depth ts)) (Some fields) r e in
    ap (λ o. with_docs found (parse_map docs_in o)) (item_read (value depth) n ts r d.0 some going d.1)
    ∙ doc_grown found d.0 fields d.2 (converted of_items (items (value depth) (n - 1) r))

pub docs_over : (depth n : ℕ) (ts r : List Token) (found : List (List RawField)) → length ts ≤ n → after_end_array ts ≡ Some r → with_docs found (items_left docs_in depth n ts) ≡ Some (Some found, r)
docs_over depth n ts r found enough e =
    ap (λ o. with_docs found (parse_map docs_in o)) (items_over (value depth) n ts r enough e) ∙ ap (λ (docs : List (List RawField)). Some (Some docs, r)) (append-nil found)

-- the document of a whole text
pub whole_docs : (text : List ℕ) (docs : List (List RawField)) → next_by docs_of body_depth (tokens text) ≡ Some (Some docs, []) → option_and_then docs_of (read text) ≡ Some docs
whole_docs text docs e =
    let d = said_of docs_of (converted of_json (value body_depth (tokens text))) (Some docs) [] e in
    ap (option_and_then docs_of) (whole_read (value body_depth (tokens text)) d.0 d.1) ∙ d.2
