-- Members that are sent one after another are an object, and those of a document come in this order.
use Rattle.std.proofs.Common.{◌≡◌, ℕ, suc, ◌+◌, ℤ, Option, List, [], ◌∷◌, ◌++◌, length, map, codes, true, None, Some, Ordering, Less, Equal, Greater, nat_cmp, refl, sym, ap, subst, ◌∙◌, arith, append_assoc, append-nil}
use Rattle.std.proofs.lemmas.List.{map-append, length-map}
use Rattle.std.specs.Bool.{⊤}
use Rattle.std.specs.Prelude.{MatchOption}
use Rattle.std.specs.List.{AllByRecursion}
use Rattle.std.specs.Ordering.{match_ordering}
use Rattle.std.specs.Cmp.Lexicographic.{slice_cmp, nat_list_cmp_total}
use Rattle.serde.specs.Event.{Log, Logs, WritesEach, WritesSeq, seq_begins, seq_ends, map_begins, map_ends, field_key, text}
use Rattle.serde.specs.declared.name.Case.TheVariants.{AsIs}
use Rattle.serde_json.specs.Data.{Data, string, object, Members, no_members, member, put}
use Rattle.serde_json.specs.Events.{SendsValue, SendsItems, SendsMembers, items_len, members_len, number_event}
use Rattle.serde_json.specs.Find.{of_integer}
use Rattle.serde_json.specs.View.{items_of}
use Rattle.sc_values.specs.Fields.{kind_of, IsField, Ascends, IsDocument}
use Rattle.sc_values.specs.declared.field.Field.{Field}
use Rattle.sc_values.specs.declared.value.Value.{Value}
use Rattle.sc_spelling.specs.Lent.{field_of}
use Rattle.sc_spelling.specs.declared.field.FieldRef.{FieldRef}
use Rattle.sc_json.specs.Documents.{members_of, whole_number, value_data, field_data, field_member, document_data, array_of}
use Rattle.sc_json.specs.Sent.{SendsMember, SendsEach, SendsBefore, ComesBefore, StartsAfter, with_next}
use Rattle.sc_json.proofs.LawLemmas.{name_from, other_name, id-no_kind, version-no_kind, shown_first}
use Rattle.sc_json.proofs.PlaceLemmas.{after, flipped}

-- ---- values and members in a row

items_sent : {A : Type 0} (shows : A → Data) (xs : List A) (first last new : Log) → WritesEach (λ x. SendsValue (shows x)) xs first last → Logs last new seq_ends
    → SendsItems (items_of (map shows xs)) first new
items_sent shows [] first last new each ended = subst (λ l. Logs l new seq_ends) each ended
items_sent shows (x ∷ xs) first last new each ended = (each.0, each.1, items_sent shows xs each.0 last new each.2 ended)

items_counted : {A : Type 0} (shows : A → Data) (xs : List A) → items_len (items_of (map shows xs)) ≡ length xs
items_counted shows [] = refl
items_counted shows (x ∷ xs) = ap suc (items_counted shows xs)

-- values that were sent as a sequence are the array of them
pub array_sent : {A : Type 0} (shows : A → Data) (xs : List A) (old new : Log) → WritesSeq (λ x. SendsValue (shows x)) xs old new → SendsValue (array_of (map shows xs)) old new
array_sent shows xs old new sent =
    (sent.0, subst (λ n. Logs old sent.0 (seq_begins (Some n))) (sym (items_counted shows xs)) sent.2, items_sent shows xs sent.0 sent.1 new sent.3 sent.4)

-- an object's members in this order
abbrev pub row : List (List ℕ × Data) → Members
row [] = no_members
row (m ∷ ms) = member m.0 m.1 (row ms)

row_sent : (ms : List (List ℕ × Data)) (first last new : Log) → SendsEach ms first last → Logs last new map_ends → SendsMembers (row ms) first new
row_sent [] first last new each ended = subst (λ l. Logs l new map_ends) each ended
row_sent (m ∷ ms) first last new each ended = (each.1.0, each.0, each.1.1, each.1.2, row_sent ms each.0 last new each.2 ended)

row_counted : (ms : List (List ℕ × Data)) → members_len (row ms) ≡ length ms
row_counted [] = refl
row_counted (m ∷ ms) = ap suc (row_counted ms)

-- members that were sent one after another are the object of them
pub object_sent : (ms : List (List ℕ × Data)) (n : ℕ) (old first last new : Log) → n ≡ length ms → Logs old first (map_begins (Some n)) → SendsEach ms first last
    → Logs last new map_ends → SendsValue (object (row ms)) old new
object_sent ms n old first last new count begun each ended =
    (first, subst (λ k. Logs old first (map_begins (Some k))) (count ∙ sym (row_counted ms)) begun, row_sent ms first last new each ended)

-- some members and then others
both_sent : (xs ys : List (List ℕ × Data)) (old mid new : Log) → SendsEach xs old mid → SendsEach ys mid new → SendsEach (xs ++ ys) old new
both_sent [] ys old mid new first later = subst (λ l. SendsEach ys l new) first later
both_sent (x ∷ xs) ys old mid new first later = (first.0, first.1, both_sent xs ys first.0 mid new first.2 later)

-- the members that fields are
pub fields_sent : (fields : List Field) (old new : Log) → WritesEach (λ (field : Field). SendsMember (field_member field)) fields old new → SendsEach (map field_member fields) old new
fields_sent [] old new each = each
fields_sent (field ∷ fields) old new each = (each.0, each.1, fields_sent fields each.0 new each.2)

-- ---- what is left to be sent

-- what is sent for the values that are left ends what is sent for all
abbrev pub EndsValues : List Value → List Value → Log → Log → Type 0
EndsValues all left old new =
    (last : Log) → WritesEach (λ (value : Value). SendsValue (value_data value)) left new last → WritesEach (λ (value : Value). SendsValue (value_data value)) all old last

-- what is sent for the fields that are left ends what is sent for all
abbrev pub EndsFields : List Field → List Field → Log → Log → Type 0
EndsFields all left old new = (last : Log) → SendsEach (map field_member left) new last → SendsEach (map field_member all) old last

-- so it is as far as their names come before this one
abbrev pub EndsBefore : List ℕ → List Field → List Field → Log → Log → Type 0
EndsBefore name all left old new = (rest : List Field) (last : Log) → SendsBefore name left rest new last → SendsBefore name all rest old last

-- one more field was sent
pub before_more : (name : List ℕ) (field : Field) (fields rest : List Field) (old mid new : Log) → ComesBefore name field → SendsMember (field_member field) old mid
    → SendsBefore name fields rest mid new → SendsBefore name (field ∷ fields) rest old new
before_more name field fields rest old mid new comes sends before =
    record {
      sent = field ∷ before.sent;
      whole = ap (λ xs. field ∷ xs) before.whole;
      before = (comes, before.before);
      after = before.after;
      each = (mid, sends, before.each);
    }

-- none was
pub before_none : (name : List ℕ) (fields : List Field) (at : Log) → StartsAfter name fields → SendsBefore name fields fields at at
before_none name fields at starts = record { sent = []; whole = refl; before = tt; after = starts; each = refl }

-- one more value was sent
pub values_more : (all left more : List Value) (value : Value) (old mid new : Log) → left ≡ value ∷ more → EndsValues all left old mid → SendsValue (value_data value) mid new
    → EndsValues all more old new
values_more all left more value old mid new is ends sends last each =
    ends last (subst (λ vs. WritesEach (λ (v : Value). SendsValue (value_data v)) vs mid last) (sym is) (new, sends, each))

-- and all, where none is left
pub values_ended : (all left : List Value) (old new : Log) → left ≡ [] → EndsValues all left old new → WritesEach (λ (value : Value). SendsValue (value_data value)) all old new
values_ended all left old new is ends =
    ends new (subst (λ vs. WritesEach (λ (v : Value). SendsValue (value_data v)) vs new new) (sym is) refl)

-- what is lent next, and what is left after it, is what was left
pub next_left : (found : Option FieldRef) (old new : List Field) → MatchOption found ((old ≡ []) × (new ≡ [])) (λ field. old ≡ field_of field ∷ new) → old ≡ with_next found new
next_left None old new steps = steps.0
next_left (Some field) old new steps = steps

-- a field whose name comes before this one was sent
pub before_step : (name : List ℕ) (all left fields next : List Field) (field : Field) (old mid new : Log) → left ≡ field ∷ fields → fields ≡ next → ComesBefore name field
    → EndsBefore name all left old mid → SendsMember (field_member field) mid new → EndsBefore name all next old new
before_step name all left fields next field old mid new is same comes ends sends rest last before =
    ends rest last (subst (λ fs. SendsBefore name fs rest mid last) (sym is)
    (before_more name field fields rest mid new last comes sends (subst (λ fs. SendsBefore name fs rest new last) (sym same) before)))

-- ---- the order of a document's members

row_of_fields : (fields : List Field) → Ascends fields → members_of (map field_member fields) ≡ row (map field_member fields)
row_of_fields [] ascend = refl
row_of_fields (f ∷ fields) ascend = shown_first f fields ascend ∙ ap (member f.name (field_data (kind_of f.name) f.values)) (row_of_fields fields ascend.1)

-- the first member's key comes after this one
StartsAbove : List ℕ → List (List ℕ × Data) → Type 0
StartsAbove k [] = ⊤
StartsAbove k (m ∷ ms) = slice_cmp nat_cmp k m.0 ≡ Less

-- a member is put between those before and those after it
put_between : (k : List ℕ) (d : Data) (before later : List (List ℕ × Data)) → AllByRecursion (λ m. slice_cmp nat_cmp k m.0 ≡ Greater) before → StartsAbove k later
    → put k d (row (before ++ later)) ≡ row (before ++ (k, d) ∷ later)
unfolding StartsAbove
put_between k d [] [] each above = refl
put_between k d [] (m ∷ later) each above =
    ap (λ o. match_ordering o (member k d (row (m ∷ later))) (member m.0 d (row later)) (member m.0 m.1 (put k d (row later)))) above
put_between k d (m ∷ before) later each above =
    ap (λ o. match_ordering o (member k d (row (m ∷ (before ++ later)))) (member m.0 d (row (before ++ later))) (member m.0 m.1 (put k d (row (before ++ later))))) each.0
    ∙ ap (member m.0 m.1) (put_between k d before later each.1 above)

members_before : (k : List ℕ) (fields : List Field) → AllByRecursion (ComesBefore k) fields → AllByRecursion (λ m. slice_cmp nat_cmp k m.0 ≡ Greater) (map field_member fields)
members_before k [] each = tt
members_before k (f ∷ fields) each = (after f.name k each.0, members_before k fields each.1)

-- where no field has the name
above_at : (k : List ℕ) (f : Field) (o : Ordering) → slice_cmp nat_cmp k f.name ≡ o → kind_of k ≡ None → IsField f → ¬ ComesBefore k f → o ≡ Less
above_at k f Less h none is not_before = refl
above_at k f Equal h none is not_before =
    let differs = other_name f.name k f.values true (name_from k f.name Equal h) none is in
    absurd (cc)
above_at k f Greater h none is not_before = absurd (not_before (flipped k f.name h))

members_after : (k : List ℕ) (fields : List Field) (more : List (List ℕ × Data)) → kind_of k ≡ None → AllByRecursion IsField fields → StartsAfter k fields → StartsAbove k more
    → StartsAbove k (map field_member fields ++ more)
unfolding StartsAbove
members_after k [] more none each starts above = above
members_after k (f ∷ fields) more none each starts above = above_at k f (slice_cmp nat_cmp k f.name) refl none each.0 starts

counted_in_order : {A : Type 0} (shows : Field → A) (before between later : List Field) (version id : A)
    → length ((before ++ between) ++ later) + 2 ≡ length (map shows before ++ version ∷ (map shows between ++ id ∷ map shows later))
counted_in_order shows [] [] later version id = ap (λ n. n + 2) (sym (length-map later shows)) ∙ omega arith
counted_in_order shows [] (f ∷ between) later version id = grind (arith, counted_in_order shows [] between later version id)
counted_in_order shows (f ∷ before) between later version id = grind (arith, counted_in_order shows before between later version id)

all_first : {A : Type 0} (P : A → Type 0) (xs ys : List A) → AllByRecursion P (xs ++ ys) → AllByRecursion P xs
all_first P [] ys each = tt
all_first P (x ∷ xs) ys each = (each.0, all_first P xs ys each.1)

all_later : {A : Type 0} (P : A → Type 0) (xs ys : List A) → AllByRecursion P (xs ++ ys) → AllByRecursion P ys
all_later P [] ys each = each
all_later P (x ∷ xs) ys each = all_later P xs ys each.1

version_member : ℤ → List ℕ × Data
version_member version = (codes "_version_", whole_number version)

id_member : List ℕ → List ℕ × Data
id_member id = (codes "id", string id)

-- the fields of a document before its version, between that and its id, and after this
pub record ArePlaced (fields before between later : List Field) : Type 0 where
  pub whole : fields ≡ (before ++ between) ++ later
  pub version_after : AllByRecursion (ComesBefore (codes "_version_")) before
  pub version_first : StartsAfter (codes "_version_") between
  pub id_after : AllByRecursion (ComesBefore (codes "id")) (before ++ between)
  pub id_first : StartsAfter (codes "id") later

-- names before that of the version come before that of the id
all_before_id : (fields : List Field) → AllByRecursion (ComesBefore (codes "_version_")) fields → AllByRecursion (ComesBefore (codes "id")) fields
all_before_id [] each = tt
all_before_id (f ∷ fields) each = (nat_list_cmp_total.trans f.name (codes "_version_") (codes "id") each.0 refl, all_before_id fields each.1)

all_joined : {A : Type 0} (P : A → Type 0) (xs ys : List A) → AllByRecursion P xs → AllByRecursion P ys → AllByRecursion P (xs ++ ys)
all_joined P [] ys first later = later
all_joined P (x ∷ xs) ys first later = (first.0, all_joined P xs ys first.1 later)

starts_first : (name : List ℕ) (xs ys : List Field) → StartsAfter name (xs ++ ys) → StartsAfter name xs
starts_first name [] ys starts = tt
starts_first name (x ∷ xs) ys starts = starts

-- they are placed where they were sent in two parts
pub placed_by : (fields middle later : List Field) (old first second new : Log)
    → (one : SendsBefore (codes "_version_") fields middle old first) → (two : SendsBefore (codes "id") middle later second new)
    → ArePlaced fields one.sent two.sent later
placed_by fields middle later old first second new one two =
    record {
      whole = one.whole ∙ ap (λ xs. one.sent ++ xs) two.whole ∙ sym (append_assoc one.sent two.sent later);
      version_after = one.before;
      version_first = starts_first (codes "_version_") two.sent later (subst (StartsAfter (codes "_version_")) two.whole one.after);
      id_after = all_joined (ComesBefore (codes "id")) one.sent two.sent (all_before_id one.sent one.before) two.before;
      id_first = two.after;
    }

-- a document's members, where the fields are placed so
members_placed : (id : List ℕ) (version : ℤ) (before between later : List Field) → List (List ℕ × Data)
members_placed id version before between later =
    map field_member before ++ version_member version ∷ (map field_member between ++ id_member id ∷ map field_member later)

in_order : (id : List ℕ) (version : ℤ) (fields before between later : List Field) → IsDocument fields → ArePlaced fields before between later
    → document_data id version (Some fields) ≡ object (row (members_placed id version before between later))
unfolding members_placed version_member id_member StartsAbove
in_order id version fields before between later document placed =
    let each = subst (AllByRecursion IsField) placed.whole document.each in
    let middle = all_later IsField before between (all_first IsField (before ++ between) later each) in
    let last = all_later IsField (before ++ between) later each in
    let shown = map field_member in
    let v = whole_number version in
    let with_id = shown between ++ (codes "id", string id) ∷ shown later in
    let fields_row : members_of (shown fields) ≡ row (shown (before ++ between) ++ shown later) =
    row_of_fields fields document.ascends ∙ ap row (ap shown placed.whole ∙ map-append field_member (before ++ between) later) in
    let above_id : StartsAbove (codes "id") (shown later) = subst (StartsAbove (codes "id")) (append-nil (shown later)) (members_after (codes "id") later [] id-no_kind last placed.id_first tt) in
    let id_put : put (codes "id") (string id) (members_of (shown fields)) ≡ row (shown before ++ with_id) =
    ap (put (codes "id") (string id)) fields_row
    ∙ put_between (codes "id") (string id) (shown (before ++ between)) (shown later) (members_before (codes "id") (before ++ between) placed.id_after) above_id
    ∙ ap (λ xs. row (xs ++ (codes "id", string id) ∷ shown later)) (map-append field_member before between)
    ∙ ap row (append_assoc (shown before) (shown between) ((codes "id", string id) ∷ shown later)) in
    let above_version : StartsAbove (codes "_version_") with_id = members_after (codes "_version_") between ((codes "id", string id) ∷ shown later) version-no_kind middle placed.version_first refl in
    ap object
    (ap (put (codes "_version_") v) id_put
    ∙ put_between (codes "_version_") v (shown before) with_id (members_before (codes "_version_") before placed.version_after) above_version)

-- what is sent so is the document
pub document_sent : (id : List ℕ) (version : ℤ) (fields before between later : List Field) (n : ℕ) (old first named_at version_at versioned_at sent_at id_at identified_at last new : Log)
    → IsDocument fields → ArePlaced fields before between later → n ≡ length fields + 2
    → Logs old first (map_begins (Some n)) → SendsEach (map field_member before) first named_at
    → Logs named_at version_at (field_key (codes "_version_") AsIs) → Logs version_at versioned_at (number_event (of_integer version))
    → SendsEach (map field_member between) versioned_at sent_at
    → Logs sent_at id_at (field_key (codes "id") AsIs) → Logs id_at identified_at (text id) → SendsEach (map field_member later) identified_at last
    → Logs last new map_ends → SendsValue (document_data id version (Some fields)) old new
unfolding members_placed version_member id_member
document_sent id version fields before between later n old first named_at version_at versioned_at sent_at id_at identified_at last new document placed count begun sent_before version_key version_sent sent_between id_key id_sent sent_later ended =
    let counted : n ≡ length (members_placed id version before between later) =
    count ∙ ap (λ xs. length xs + 2) placed.whole ∙ counted_in_order field_member before between later (version_member version) (id_member id) in
    let with_id = both_sent (map field_member between) (id_member id ∷ map field_member later) versioned_at sent_at last sent_between (identified_at, (id_at, id_key, id_sent), sent_later) in
    let each = both_sent (map field_member before) (version_member version ∷ (map field_member between ++ id_member id ∷ map field_member later)) first named_at last sent_before
    (versioned_at, (version_at, version_key, version_sent), with_id) in
    subst (λ d. SendsValue d old new) (sym (in_order id version fields before between later document placed))
    (object_sent (members_placed id version before between later) n old first last new counted begun each ended)
