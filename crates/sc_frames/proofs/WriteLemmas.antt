-- A write that is read is spelled so, and what is spelled so is read again, whatever follows it.
use Rattle.std.proofs.Common.{◌≡◌, ℕ, ℤ, Bool, true, false, List, ◌∷◌, ◌++◌, length, Option, Some, None, refl, sym, ap, subst, ◌∙◌, append_assoc}
use Rattle.std.specs.Prelude.{is_some}
use Rattle.std.specs.Int.{w16, w64, to_le_bytes, cast_signed, cast_unsigned}
use Rattle.std.proofs.lemmas.Int.{to_z-of_z}
use Rattle.std.proofs.lemmas.List.{append-nil}
use Rattle.sc_values.specs.declared.field.Field.{Field}
use Rattle.sc_spelling.specs.Spellings.{spelling}
use Rattle.sc_spelling.specs.Reading.{◌>>=◌}
use Rattle.sc_spelling.proofs.NumberLemmas.{IsBytes, bind_some, some_is, Takes, Takes-then}
use Rattle.sc_frames.specs.Stored.{Stored, write, FitsEntry}
use Rattle.sc_frames.specs.Entries.{write_head, spelling_of_write, spelling_of_entry}
use Rattle.sc_frames.specs.Reading.{id_at, version_at, doc_at, write_at}
use Rattle.sc_frames.proofs.PartLemmas.{id_takes, id_again, version_takes, version_again, doc_bytes, doc_takes, doc_again, doc_none}

-- of an entry that was read after the byte of its kind: its other bytes are in front, and it fits
pub record IsRestRead (kind : ℕ) (bytes : List ℕ) (s : Stored) (rest : List ℕ) : Type 0 where
  pub text : List ℕ
  pub spelled : spelling_of_entry s ≡ kind ∷ text
  pub takes : Takes bytes text rest
  pub fits : FitsEntry s

-- the kind of a write
abbrev pub write_kind : Bool → ℕ
write_kind true = 1
write_kind false = 2

write-spelled : (id : List ℕ) (version : ℤ) (doc : Option (List Field)) (has_doc : Bool) → is_some doc ≡ has_doc
    → spelling_of_write id version doc ≡ write_kind has_doc ∷ (write_head id version ++ doc_bytes doc)
write-spelled id version (Some fields) true came = refl
write-spelled id version None false came = ap (λ (t : List ℕ). 2 ∷ t) (sym (append-nil (write_head id version)))
write-spelled id version (Some fields) false came = absurd cc
write-spelled id version None true came = absurd cc

pub write_takes : (has_doc : Bool) (bytes : List ℕ) (x : Stored × List ℕ) → IsBytes bytes → write_at has_doc bytes ≡ Some x → IsRestRead (write_kind has_doc) bytes x.0 x.1
unfolding write_at
write_takes has_doc bytes x fits e =
    let a = bind_some (id_at bytes) (λ id. version_at id.1 >>= λ version. doc_at has_doc version.1 >>= λ doc.
    Some (write id.0 (cast_signed w64 version.0) doc.0, doc.1)) x e in
    let b = bind_some (version_at a.0.1) (λ version. doc_at has_doc version.1 >>= λ doc.
    Some (write a.0.0 (cast_signed w64 version.0) doc.0, doc.1)) x a.2 in
    let c = bind_some (doc_at has_doc b.0.1) (λ doc. Some (write a.0.0 (cast_signed w64 b.0.0) doc.0, doc.1)) x b.2 in
    let id : List ℕ = a.0.0 in
    let version : ℤ = cast_signed w64 b.0.0 in
    let t0 = id_takes bytes a.0 fits a.1 in
    let t1 = version_takes a.0.1 b.0 t0.takes.rest_fits b.1 in
    let t2 = doc_takes has_doc b.0.1 c.0 t1.takes.rest_fits c.1 in
    let named : List ℕ = to_le_bytes w16 (length id) ++ id in
    let numbered : List ℕ = to_le_bytes w64 (cast_unsigned w64 version) in
    let head = Takes-then bytes named a.0.1 numbered b.0.1 t0.takes t1.takes in
    let whole = Takes-then bytes (named ++ numbered) b.0.1 (doc_bytes c.0.0) c.0.1 head t2.takes in
    let regrouped : named ++ numbered ≡ write_head id version = append_assoc (to_le_bytes w16 (length id)) id numbered in
    let made : Stored × List ℕ = (write id version c.0.0, c.0.1) in
    subst (λ (y : Stored × List ℕ). IsRestRead (write_kind has_doc) bytes y.0 y.1) (some_is made x c.2)
    (record {
      text = write_head id version ++ doc_bytes c.0.0;
      spelled = write-spelled id version c.0.0 has_doc t2.came;
      takes = subst (λ (t : List ℕ). Takes bytes (t ++ doc_bytes c.0.0) c.0.1) regrouped whole;
      fits = (t0.is, t1.is, t2.fits);
    })

head-split : (id : List ℕ) (version : ℤ) (more : List ℕ) → write_head id version ++ more ≡ to_le_bytes w16 (length id) ++ (id ++ (to_le_bytes w64 (cast_unsigned w64 version) ++ more))
head-split id version more =
    append_assoc (to_le_bytes w16 (length id)) (id ++ to_le_bytes w64 (cast_unsigned w64 version)) more
    ∙ ap (λ (t : List ℕ). to_le_bytes w16 (length id) ++ t) (append_assoc id (to_le_bytes w64 (cast_unsigned w64 version)) more)

pub write_again : (id : List ℕ) (version : ℤ) (fields : List Field) (rest : List ℕ) → FitsEntry (write id version (Some fields))
    → write_at true ((write_head id version ++ spelling fields) ++ rest) ≡ Some (write id version (Some fields), rest)
unfolding write_at
write_again id version fields rest fits =
    let more : List ℕ = spelling fields ++ rest in
    ap (write_at true) (append_assoc (write_head id version) (spelling fields) rest ∙ head-split id version more)
    ∙ rw (
      id_again id (to_le_bytes w64 (cast_unsigned w64 version) ++ more) fits.0,
      version_again version more fits.1,
      doc_again fields rest fits.2,
      to_z-of_z w64 version fits.1.fits,
    ) refl

pub deletion_again : (id : List ℕ) (version : ℤ) (rest : List ℕ) → FitsEntry (write id version None)
    → write_at false (write_head id version ++ rest) ≡ Some (write id version None, rest)
unfolding write_at
deletion_again id version rest fits =
    ap (write_at false) (head-split id version rest)
    ∙ rw (
      id_again id (to_le_bytes w64 (cast_unsigned w64 version) ++ rest) fits.0,
      version_again version rest fits.1,
      doc_none rest,
      to_z-of_z w64 version fits.1.fits,
    ) refl
