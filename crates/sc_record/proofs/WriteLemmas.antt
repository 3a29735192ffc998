-- A write's run is its document's spelling, and the run of its terms after it.
use Rattle.std.proofs.Common.{◌≡◌, ◌∙◌, ℕ, ◌^◌, ◌<◌, Bool, cond, List, [], ◌++◌, length, take, drop, Option, Some, None, refl, sym, ap, subst, arith}
use Rattle.std.specs.Prelude.{IsSome, IfSome}
use Rattle.std.specs.Int.{w32, to_le_bytes}
use Rattle.std.proofs.lemmas.Bool.{ne_eqb}
use Rattle.std.proofs.lemmas.List.{take_at, drop_at, length-append}
use Rattle.sc_values.specs.declared.field.Field.{Field}
use Rattle.sc_values.specs.Fields.{IsDocument}
use Rattle.sc_spelling.specs.Reading.{◌>>=◌, document_at, read_of}
use Rattle.sc_spelling.specs.Spellings.{spelling}
use Rattle.sc_spelling.proofs.NumberLemmas.{wide32, number_again}
use Rattle.sc_record.specs.Documents.{IsWhole}
use Rattle.sc_record.specs.TermRuns.{Source, terms_at, run_at}
use Rattle.sc_record.specs.WriteRuns.{counted_terms_at, doc_of_run, terms_after, IsWriteRun}
use Rattle.sc_record.specs.Writes.{Write}
use Rattle.sc_record.specs.declared.term.Term.{Term}
use Rattle.sc_record.specs.declared.term_run.TermRun.{TermRun}
use Rattle.sc_record.proofs.DocumentLemmas.{is_long}

-- the document of a run that has one
pub doc_of_live : (n : ℕ) (run : List ℕ) → 0 < n → doc_of_run n run ≡ Some (read_of (document_at (take n run)))
doc_of_live n run h = ap (λ (b : Bool). cond b None (Some (read_of (document_at (take n run))))) (ne_eqb n 0 (λ is. absurd (omega (arith, h, is))))

counted_again : (source : Source) (count : ℕ) (rest : List ℕ) → count < 2 ^ 32 → counted_terms_at source (to_le_bytes w32 count ++ rest) ≡ terms_at [] source count rest
unfolding counted_terms_at
counted_again source count rest lt =
    ap (λ (t : Option (ℕ × List ℕ)). t >>= λ count. terms_at [] source count.0 count.1) (number_again w32 (2 ^ 32) wide32 count rest lt)

-- of a run that was made of a document's bytes and the run of its terms
pub record IsMade (id : List ℕ) (fields : List Field) (terms : TermRun) (n : ℕ) (run : List ℕ) : Type 0 where
  pub doc : doc_of_run n run ≡ Some fields
  pub terms_read : terms_after id n run ≡ run_at id fields terms
  pub kept : IsWriteRun id n run

pub made : (id : List ℕ) (fields : List Field) (terms : TermRun) (d : List ℕ) (n : ℕ) (run : List ℕ) → d ≡ spelling fields → IsWhole d → read_of (document_at d) ≡ fields
    → n ≡ length d → terms.count < 2 ^ 32 → run ≡ d ++ (to_le_bytes w32 terms.count ++ terms.bytes.items) → IsSome (run_at id fields terms) → IsMade id fields terms n run
made id fields terms d n run spelled whole read long count is some =
    let rest : List ℕ = to_le_bytes w32 terms.count ++ terms.bytes.items in
    let front : take n run ≡ d = ap (take n) is ∙ take_at d rest n (sym long) in
    let back : drop n run ≡ rest = ap (drop n) is ∙ drop_at d rest n (sym long) in
    let live : 0 < n = let many = is_long d whole in omega (arith, many, long) in
    let again : terms_after id n run ≡ run_at id fields terms =
    ap (λ (b : List ℕ). counted_terms_at (record { id = id; doc = take n run }) b) back
    ∙ ap (λ (b : List ℕ). counted_terms_at (record { id = id; doc = b }) rest) (front ∙ spelled)
    ∙ counted_again (record { id = id; doc = spelling fields }) terms.count terms.bytes.items count in
    record {
      doc = doc_of_live n run live ∙ ap (λ (b : List ℕ). Some (read_of (document_at b))) front ∙ ap Some read;
      terms_read = again;
      kept = record {
        within = omega (arith, long, ap length is, length-append d rest);
        doc = λ h. subst IsWhole (sym front) whole;
        terms = λ h. subst (λ (o : Option (List Term × List ℕ)). IsSome o) (sym again) some;
        none = λ is. absurd (omega (arith, live, is));
      };
    }

-- of a run without bytes
pub none_kept : (id run : List ℕ) → run ≡ [] → (doc_of_run 0 run ≡ None) × (terms_after id 0 run ≡ None)
unfolding counted_terms_at
none_kept id run none = (refl, rw none refl)

-- a run that has no document has no terms
pub none_terms : (id : List ℕ) (n : ℕ) (run : List ℕ) → n ≡ 0 → IsWriteRun id n run → read_of (terms_after id n run) ≡ []
none_terms id n run is kept = ap (λ (k : ℕ). read_of (terms_after id k run)) is ∙ ap read_of (none_kept id run (kept.none is)).1

-- what was read as a document is the document of the write
pub doc_is : (w : Write) (n : ℕ) (run lent : List ℕ) → 0 < n → lent ≡ take n run → doc_of_run n run ≡ w.doc → IsDocument (read_of (document_at lent)) → IfSome w.doc IsDocument
doc_is w n run lent live same is document =
    subst (λ (o : Option (List Field)). IfSome o IsDocument) (sym (doc_of_live n run live) ∙ is)
    (subst (λ (b : List ℕ). IsDocument (read_of (document_at b))) same document)
