-- A byte, an id, a version or a document that is read is spelled so, and what is spelled so is read again, whatever follows it.
use Rattle.std.proofs.Common.{◌≡◌, ℕ, ◌^◌, ◌<◌, ℤ, pos, ◌<ℤ◌, ◌≤ℤ◌, Bool, true, false, cond, ltb, leb, T, List, [], ◌∷◌, ◌++◌, length, Option, Some, None, refl, sym, subst, arith}
use Rattle.std.specs.Prelude.{◌&&◌, int_lt, int_le, is_some}
use Rattle.std.specs.Int.{w16, w64, to_le_bytes, cast_signed, cast_unsigned}
use Rattle.std.proofs.lemmas.Bool.{ltb-true, leb-true, lt-ltb, le-leb}
use Rattle.std.proofs.lemmas.List.{drop_at}
use Rattle.std.proofs.lemmas.Int.{to_z-of_z, of_z-to_z}
use borrow.Author.Gap.{read_sfits}
use Rattle.sc_values.specs.declared.field.Field.{Field}
use Rattle.sc_record.specs.Ids.{id_limit}
use Rattle.sc_spelling.specs.Spellings.{spelling}
use Rattle.sc_spelling.specs.Reading.{number_at, text_at, document_at}
use Rattle.sc_spelling.proofs.NumberLemmas.{IsBytes, IsBytes-drop, IsBytes-rest, bind_some, kept_some, some_is, Takes, wide16, wide64, number_takes, number_again, text_takes, text_again}
use Rattle.sc_spelling.proofs.ValueLemmas.{both_of, of_both, unsigned64}
use Rattle.sc_spelling.proofs.DocumentLemmas.{document_takes, document_again}
use Rattle.sc_frames.specs.Stored.{IsIdText, IsVersion, FitsDoc}
use Rattle.sc_frames.specs.Reading.{byte_at, id_at, version_at, doc_at}

-- ---- a byte

pub byte_takes : (bytes : List ℕ) (x : ℕ × List ℕ) → IsBytes bytes → byte_at bytes ≡ Some x → Takes bytes (x.0 ∷ []) x.1 × (x.0 < 2 ^ 8)
byte_takes [] x fits e = absurd cc
byte_takes (b ∷ bytes) x fits e =
    subst (λ (y : ℕ × List ℕ). Takes (b ∷ bytes) (y.0 ∷ []) y.1 × (y.0 < 2 ^ 8)) (some_is (b, bytes) x e)
    (record { parts = refl; rest_fits = IsBytes-rest b bytes fits }, omega (arith, fits 0))

-- bytes after others are bytes
pub IsBytes-after : (front back : List ℕ) → IsBytes (front ++ back) → IsBytes back
IsBytes-after front back fits = subst IsBytes (drop_at front back (length front) refl) (IsBytes-drop (length front) (front ++ back) fits)

-- ---- order of numbers with a sign, as a test and as a fact

holds : (b : Bool) → T b → b ≡ true
holds true h = refl
holds false h = absurd h

pub int_le-from : (a b : ℤ) → a ≤ℤ b → int_le a b ≡ true
int_le-from a b h = holds (int_le a b) h.le

pub int_le-true : (a b : ℤ) → int_le a b ≡ true → a ≤ℤ b
int_le-true a b h = record { le = rw h tt }

pub int_lt-from : (a b : ℤ) → a <ℤ b → int_lt a b ≡ true
int_lt-from a b h = holds (int_lt a b) h.lt

pub int_lt-true : (a b : ℤ) → int_lt a b ≡ true → a <ℤ b
int_lt-true a b h = record { lt = rw h tt }

-- ---- an id

-- of an id that was read: its length and it are in front, and it is the text of an id
pub record IsIdRead (bytes id rest : List ℕ) : Type 0 where
  pub takes : Takes bytes (to_le_bytes w16 (length id) ++ id) rest
  pub is : IsIdText id

-- whether the length is that of an id
abbrev is_id_length : List ℕ → Bool
is_id_length id = ltb 0 (length id) && leb (length id) id_limit

pub id_takes : (bytes : List ℕ) (x : List ℕ × List ℕ) → IsBytes bytes → id_at bytes ≡ Some x → IsIdRead bytes x.0 x.1
unfolding id_at
id_takes bytes x fits e =
    let a = bind_some (text_at w16 bytes) (λ id. cond (is_id_length id.0) (Some id) None) x e in
    let g = kept_some (is_id_length a.0.0) (Some a.0) x a.2 in
    let both = both_of (ltb 0 (length a.0.0)) (leb (length a.0.0) id_limit) g.0 in
    let t = text_takes w16 (2 ^ 16) wide16 bytes a.0 fits a.1 in
    subst (λ (y : List ℕ × List ℕ). IsIdRead bytes y.0 y.1) (some_is a.0 x g.1)
    (record { takes = t.takes; is = record { some = ltb-true _ _ both.0; short = leb-true _ _ both.1; utf8 = t.utf8 } })

pub id_again : (id rest : List ℕ) → IsIdText id → id_at (to_le_bytes w16 (length id) ++ (id ++ rest)) ≡ Some (id, rest)
unfolding id_at
id_again id rest is =
    let short : length id < 2 ^ 16 = omega (arith, is.short) in
    let kept : is_id_length id ≡ true = of_both (ltb 0 (length id)) (leb (length id) id_limit) (lt-ltb _ _ is.some) (le-leb _ _ is.short) in
    rw (text_again w16 (2 ^ 16) wide16 id rest short is.utf8, kept) refl

-- ---- a version

-- of a version that was read: its bytes are in front, and it is one
pub record IsVersionRead (bytes : List ℕ) (version : ℤ) (rest : List ℕ) : Type 0 where
  pub takes : Takes bytes (to_le_bytes w64 (cast_unsigned w64 version)) rest
  pub is : IsVersion version

pub version_takes : (bytes : List ℕ) (x : ℕ × List ℕ) → IsBytes bytes → version_at bytes ≡ Some x → IsVersionRead bytes (cast_signed w64 x.0) x.1
unfolding version_at
version_takes bytes x fits e =
    let a = bind_some (number_at w64 bytes) (λ n. cond (int_lt (pos 0) (cast_signed w64 n.0)) (Some n) None) x e in
    let g = kept_some (int_lt (pos 0) (cast_signed w64 a.0.0)) (Some a.0) x a.2 in
    let t = number_takes w64 (2 ^ 64) wide64 bytes a.0.0 a.0.1 fits a.1 in
    let same : a.0.0 ≡ cast_unsigned w64 (cast_signed w64 a.0.0) = sym (of_z-to_z w64 a.0.0 t.1) in
    subst (λ (y : ℕ × List ℕ). IsVersionRead bytes (cast_signed w64 y.0) y.1) (some_is a.0 x g.1)
    (record {
      takes = subst (λ (k : ℕ). Takes bytes (to_le_bytes w64 k) a.0.1) same t.0;
      is = record { positive = int_lt-true (pos 0) (cast_signed w64 a.0.0) g.0; fits = read_sfits w64 a.0.0 };
    })

pub version_again : (version : ℤ) (rest : List ℕ) → IsVersion version → version_at (to_le_bytes w64 (cast_unsigned w64 version) ++ rest) ≡ Some (cast_unsigned w64 version, rest)
unfolding version_at
version_again version rest is =
    let back : cast_signed w64 (cast_unsigned w64 version) ≡ version = to_z-of_z w64 version is.fits in
    let kept : int_lt (pos 0) (cast_signed w64 (cast_unsigned w64 version)) ≡ true = rw back (int_lt-from (pos 0) version is.positive) in
    rw (number_again w64 (2 ^ 64) wide64 (cast_unsigned w64 version) rest (unsigned64 version is.fits), kept) refl

-- ---- a document, where one is to come

-- the bytes of a document, where there is one
abbrev pub doc_bytes : Option (List Field) → List ℕ
doc_bytes None = []
doc_bytes (Some fields) = spelling fields

-- of what was read where a document may be to come: its bytes are in front, it fits, and it is there where it was to come
pub record IsDocRead (has_doc : Bool) (bytes : List ℕ) (doc : Option (List Field)) (rest : List ℕ) : Type 0 where
  pub takes : Takes bytes (doc_bytes doc) rest
  pub fits : FitsDoc doc
  pub came : is_some doc ≡ has_doc

-- no document where none is to come
abbrev nothing : List ℕ → Option (List Field) × List ℕ
nothing bytes = (None, bytes)

-- the document that was read
abbrev something : List Field × List ℕ → Option (List Field) × List ℕ
something x = (Some x.0, x.1)

pub doc_takes : (has_doc : Bool) (bytes : List ℕ) (x : Option (List Field) × List ℕ) → IsBytes bytes → doc_at has_doc bytes ≡ Some x → IsDocRead has_doc bytes x.0 x.1
unfolding doc_at
doc_takes false bytes x fits e =
    subst (λ (y : Option (List Field) × List ℕ). IsDocRead false bytes y.0 y.1) (some_is (nothing bytes) x e)
    (record { takes = record { parts = refl; rest_fits = fits }; fits = tt; came = refl })
doc_takes true bytes x fits e =
    let a = bind_some (document_at bytes) (λ fields. Some (something fields)) x e in
    let t = document_takes bytes a.0 fits a.1 in
    subst (λ (y : Option (List Field) × List ℕ). IsDocRead true bytes y.0 y.1) (some_is (something a.0) x a.2)
    (record { takes = record { parts = t.1; rest_fits = IsBytes-after (spelling a.0.0) a.0.1 (subst IsBytes t.1 fits) }; fits = t.0; came = refl })

pub doc_again : (fields : List Field) (rest : List ℕ) → FitsDoc (Some fields) → doc_at true (spelling fields ++ rest) ≡ Some (something (fields, rest))
unfolding doc_at
doc_again fields rest fits = rw (document_again fields rest fits) refl

pub doc_none : (rest : List ℕ) → doc_at false rest ≡ Some (nothing rest)
unfolding doc_at
doc_none rest = refl
