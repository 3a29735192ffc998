-- The closing of a mark that reads 1 with no whole frame behind it.
use Rattle.std.proofs.Common.{◌≡◌, inl, inr, ℕ, ◌+◌, ◌<◌, List, [], ◌∷◌, ◌++◌, length, get_or, take, drop, Some, None, Option, IfSome, refl, sym, ◌∙◌, ap, subst, arith, append_assoc, length-append, take-append-drop}
use Rattle.std.proofs.lemmas.Bool.{cases_eq}
use Rattle.std.proofs.lemmas.List.{append-nil, append_cancel_left, take_at, drop_at, drop_more}
use Rattle.std.specs.List.{AllByRecursion}
use Rattle.sc_files.specs.Images.{Holds, Torn}
use Rattle.sc_files.specs.States.{FileState, IsFresh, IsDurable, AreAmong}
use Rattle.sc_tail.specs.Frames.{frames, opened}
use Rattle.sc_tail.specs.Files.{Fits, Behind, IsShut, IsAny, HasRead}
use Rattle.sc_tail.proofs.FrameLemmas.{opened-frames, opened_shut}
use Rattle.sc_tail.proofs.ImageLemmas.{holds_mark}

module _ (bodies : List (List ℕ)) (fits : AllByRecursion Fits bodies) (place size : ℕ) where
  -- reading ended here, at a mark of which P holds
  pub record Ended (P : ℕ → Type 0) (file : List ℕ) : Type 0 where
    pub mark : ℕ
    pub rest : List ℕ
    pub split : file ≡ frames bodies ++ mark ∷ rest
    pub blank : opened (mark ∷ rest) ≡ []
    pub at : place ≡ length (frames bodies)
    pub is : P mark

  pub ended : (P : ℕ → Type 0) (file : List ℕ) → HasRead bodies place size file → place < size → opened file ≡ bodies → P (get_or (take 1 (drop place file)) 0 0) → Ended P file
  ended P file read some is mark_is =
      let left : 0 < length read.rest = omega (arith, some, read.at, read.len, ap length read.split, length-append (frames bodies) read.rest) in
      let parted : read.rest ≡ get_or read.rest 0 0 ∷ drop 1 read.rest = drop_more read.rest 0 0 left in
      record {
        mark = get_or read.rest 0 0;
        rest = drop 1 read.rest;
        split = read.split ∙ ap (λ l. frames bodies ++ l) parted;
        blank = ap (λ l. opened l) (sym parted) ∙ append_cancel_left bodies (opened read.rest) [] (sym read.opens ∙ is ∙ sym (append-nil bodies));
        at = read.at;
        is = subst P (ap (λ l. get_or (take 1 l) 0 0) (ap (λ l. drop place l) read.split ∙ drop_at (frames bodies) read.rest place (sym read.at) ∙ parted)) mark_is;
      }

  pub is_shut : (file : List ℕ) → Ended IsShut file → Behind bodies IsShut [] file
  is_shut file e = record { mark = e.mark; rest = e.rest; split = e.split; is = e.is }

  -- each outcome of the writing of the mark has no frame more, where it read 1
  pub torn_ended : (d c : List ℕ) → Ended (λ m. m ≡ 1) d → Torn place 1 d c → opened c ≡ bodies
  torn_ended d c e torn =
      let E = length (frames bodies) in
      let t : Torn E 1 d c = subst (λ n. Torn n 1 d c) e.at torn in
      let front : take E d ≡ frames bodies = ap (λ l. take E l) e.split ∙ take_at (frames bodies) (e.mark ∷ e.rest) E refl in
      let back : drop (E + 1) d ≡ e.rest =
      ap (λ l. drop (E + 1) l) (e.split ∙ sym (append_assoc (frames bodies) (e.mark ∷ []) e.rest))
      ∙ drop_at (frames bodies ++ e.mark ∷ []) e.rest (E + 1) (length-append (frames bodies) (e.mark ∷ [])) in
      let x = get_or c E 0 in
      let split : c ≡ frames bodies ++ x ∷ e.rest =
      sym (take-append-drop E c) ∙ ap (λ l. l ++ drop E c) (t.before ∙ front)
      ∙ ap (λ l. frames bodies ++ l) (drop_more c E 0 (omega (arith, t.no_shorter, ap length e.split, length-append (frames bodies) (e.mark ∷ e.rest))) ∙ ap (λ (l : List ℕ). x ∷ l) (t.after ∙ back)) in
      elim (cases_eq x 1) [
        | inl open_mark ↦
            ap (λ l. opened l) split ∙ opened-frames bodies (x ∷ e.rest) fits (omega arith)
            ∙ ap (λ (l : List (List ℕ)). bodies ++ l) (ap (λ m. opened (m ∷ e.rest)) (open_mark ∙ sym e.is) ∙ e.blank) ∙ append-nil bodies
        | inr shut ↦ ap (λ l. opened l) split ∙ opened_shut bodies x e.rest fits shut
      ]

  -- the mark is closed
  pub closed : (P : ℕ → Type 0) (d c : List ℕ) → Ended P d → Holds place (0 ∷ []) d c → Behind bodies IsShut [] c
  closed P d c e holds =
      let b : Behind bodies IsAny [] d = record { mark = e.mark; rest = e.rest; split = e.split; is = tt } in
      let h = holds_mark bodies IsAny [] 0 place d c b e.at holds in
      record { mark = h.mark; rest = h.rest; split = h.split; is = subst IsShut (sym h.is) (omega arith) }

  -- where reading ended
  pub record IsEnded (P : ℕ → Type 0) (file : FileState) : Type 0 where
    pub seen : IfSome file.seen (Ended P)
    pub crash : AreAmong file.may_leave (Ended P)
    pub kept : AreAmong file.kept (Ended P)

  of_seen : (o : Option (List ℕ)) (P : List ℕ → Type 0) (c : List ℕ) → IfSome o P → o ≡ Some c → P c
  of_seen o P c some is = subst (λ s. IfSome s P) is some

  pub is_ended : (P : ℕ → Type 0) (file : FileState) → IfSome file.seen (HasRead bodies place size) → place < size → IfSome file.seen (λ c. opened c ≡ bodies) → IfSome file.seen (λ c. P (get_or (take 1 (drop place c)) 0 0))
      → IsFresh file → IsDurable file → IsEnded P file
  is_ended P file read some is mark fresh durable = record {
    seen = both file.seen read is mark;
    crash = λ c now. of_seen file.seen (Ended P) c (both file.seen read is mark) (durable c now);
    kept = λ c now. of_seen file.seen (Ended P) c (both file.seen read is mark) (fresh c now);
  }
    where
      both : (o : Option (List ℕ)) → IfSome o (HasRead bodies place size) → IfSome o (λ c. opened c ≡ bodies) → IfSome o (λ c. P (get_or (take 1 (drop place c)) 0 0)) → IfSome o (Ended P)
      both None read is mark = tt
      both (Some c) read is mark = ended P c read some is mark
