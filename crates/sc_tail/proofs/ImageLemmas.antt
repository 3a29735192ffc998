-- What a write behind the mark, and one of the mark, leave of a file, whole or cut short.
use Rattle.std.proofs.Common.{◌≡◌, inl, inr, ℕ, ◌+◌, ◌≤◌, List, [], ◌∷◌, ◌++◌, length, get_or, take, drop, refl, sym, ◌∙◌, ap, subst, arith, append_assoc, length-append, take-append-drop}
use Rattle.std.proofs.lemmas.Bool.{cases_eq}
use Rattle.std.proofs.lemmas.List.{take_at, drop_at, drop_more, take-take}
use Rattle.std.specs.Int.{w64, to_le_bytes}
use Rattle.std.specs.List.{AllByRecursion}
use Rattle.sc_files.specs.Images.{Holds, Torn}
use Rattle.sc_tail.specs.Frames.{frame, frames, opened}
use Rattle.sc_tail.specs.Files.{Fits, Behind, IsShut, IsAny, behind_mark, OpensToEither}
use Rattle.sc_tail.proofs.FrameLemmas.{opened_shut, frames-push, fits-push}

-- a mark that is open
abbrev pub IsOpen : ℕ → Type 0
IsOpen mark = mark ≡ 1

module _ (bodies : List (List ℕ)) where
  -- what stands behind the mark may be looked at as any bytes
  pub less_known : (P : ℕ → Type 0) (bytes c : List ℕ) → Behind bodies P bytes c → Behind bodies P [] c
  less_known P bytes c b = record { mark = b.mark; rest = bytes ++ b.rest; split = b.split; is = b.is }

  pub any_mark : (P : ℕ → Type 0) (bytes c : List ℕ) → Behind bodies P bytes c → Behind bodies IsAny bytes c
  any_mark P bytes c b = record { mark = b.mark; rest = b.rest; split = b.split; is = tt }

  length-front : (mark : ℕ) (bytes : List ℕ) → length (frames bodies ++ mark ∷ bytes) ≡ length (frames bodies) + (1 + length bytes)
  length-front mark bytes = omega (arith, length-append (frames bodies) (mark ∷ bytes))

  -- a file is as long as what is known of it
  pub long : (P : ℕ → Type 0) (bytes c : List ℕ) → Behind bodies P bytes c → length (frames bodies) + (1 + length bytes) ≤ length c
  long P bytes c b = omega (arith, ap length b.split, length-front b.mark (bytes ++ b.rest), length-append bytes b.rest)

  -- a write behind the mark that is cut short leaves the frames and the mark
  pub torn_behind : (P : ℕ → Type 0) (at n : ℕ) (d c : List ℕ) → Behind bodies P [] d → length (frames bodies) + 1 ≤ at → Torn at n d c → Behind bodies P [] c
  torn_behind P at n d c b far torn =
      let front = frames bodies ++ b.mark ∷ [] in
      let size : length front ≡ length (frames bodies) + 1 = length-front b.mark [] in
      let apart : d ≡ front ++ b.rest = b.split ∙ sym (append_assoc (frames bodies) (b.mark ∷ []) b.rest) in
      let same : take (length (frames bodies) + 1) c ≡ front =
      sym (take-take (length (frames bodies) + 1) at c far) ∙ ap (λ l. take (length (frames bodies) + 1) l) torn.before ∙ take-take (length (frames bodies) + 1) at d far
      ∙ ap (λ l. take (length (frames bodies) + 1) l) apart ∙ take_at front b.rest (length (frames bodies) + 1) size in
      record {
        mark = b.mark;
        rest = drop (length (frames bodies) + 1) c;
        split =
            sym (take-append-drop (length (frames bodies) + 1) c) ∙ ap (λ l. l ++ drop (length (frames bodies) + 1) c) same
            ∙ append_assoc (frames bodies) (b.mark ∷ []) (drop (length (frames bodies) + 1) c);
        is = b.is;
      }

  -- one that is done adds its bytes to those that are known behind the mark
  pub holds_behind : (P : ℕ → Type 0) (bytes more : List ℕ) (at : ℕ) (d c : List ℕ) → Behind bodies P bytes d → at ≡ length (frames bodies) + (1 + length bytes) → Holds at more d c → Behind bodies P (bytes ++ more) c
  holds_behind P bytes more at d c b place holds =
      let front = frames bodies ++ b.mark ∷ bytes in
      let rest = drop (at + length more) d in
      let apart : d ≡ front ++ b.rest = b.split ∙ sym (append_assoc (frames bodies) (b.mark ∷ bytes) b.rest) in
      let same : take at d ≡ front = ap (λ l. take at l) apart ∙ take_at front b.rest at (length-front b.mark bytes ∙ sym place) in
      record {
        mark = b.mark;
        rest = rest;
        split =
            holds ∙ ap (λ l. (l ++ more) ++ rest) same ∙ ap (λ l. l ++ rest) (append_assoc (frames bodies) (b.mark ∷ bytes) more)
            ∙ append_assoc (frames bodies) (b.mark ∷ (bytes ++ more)) rest;
        is = b.is;
      }

  -- what stands before the mark, and from behind it on
  before_mark : (P : ℕ → Type 0) (bytes d : List ℕ) → (b : Behind bodies P bytes d) → take (length (frames bodies)) d ≡ frames bodies
  before_mark P bytes d b = ap (λ l. take (length (frames bodies)) l) b.split ∙ take_at (frames bodies) (b.mark ∷ (bytes ++ b.rest)) (length (frames bodies)) refl

  after_mark : (P : ℕ → Type 0) (bytes d : List ℕ) → (b : Behind bodies P bytes d) → drop (length (frames bodies) + 1) d ≡ bytes ++ b.rest
  after_mark P bytes d b =
      ap (λ l. drop (length (frames bodies) + 1) l) (b.split ∙ sym (append_assoc (frames bodies) (b.mark ∷ []) (bytes ++ b.rest)))
      ∙ drop_at (frames bodies ++ b.mark ∷ []) (bytes ++ b.rest) (length (frames bodies) + 1) (length-front b.mark [])

  -- the writing of the mark leaves what stands behind it
  pub torn_mark : (P : ℕ → Type 0) (bytes : List ℕ) (at : ℕ) (d c : List ℕ) → Behind bodies P bytes d → at ≡ length (frames bodies) → Torn at 1 d c → Behind bodies IsAny bytes c
  torn_mark P bytes at d c b place torn =
      let E = length (frames bodies) in
      let t : Torn E 1 d c = subst (λ n. Torn n 1 d c) place torn in
      let mark = get_or c E 0 in
      let back : drop E c ≡ mark ∷ (bytes ++ b.rest) = drop_more c E 0 (omega (arith, long P bytes d b, t.no_shorter)) ∙ ap (λ (l : List ℕ). mark ∷ l) (t.after ∙ after_mark P bytes d b) in
      record {
        mark = mark;
        rest = b.rest;
        split = sym (take-append-drop E c) ∙ ap (λ l. l ++ drop E c) (t.before ∙ before_mark P bytes d b) ∙ ap (λ l. frames bodies ++ l) back;
        is = tt;
      }

  pub holds_mark : (P : ℕ → Type 0) (bytes : List ℕ) (mark at : ℕ) (d c : List ℕ) → Behind bodies P bytes d → at ≡ length (frames bodies) → Holds at (mark ∷ []) d c → Behind bodies (λ m. m ≡ mark) bytes c
  holds_mark P bytes mark at d c b place holds =
      let E = length (frames bodies) in
      let h : Holds E (mark ∷ []) d c = subst (λ n. Holds n (mark ∷ []) d c) place holds in
      record {
        mark = mark;
        rest = b.rest;
        split = h ∙ append_assoc (take E d) (mark ∷ []) (drop (E + 1) d) ∙ (λ i. before_mark P bytes d b i ++ mark ∷ after_mark P bytes d b i);
        is = refl;
      }

  -- an open mark makes a frame of what was staged
  pub frame_opens : (body c : List ℕ) → Behind bodies IsOpen (behind_mark body) c → Behind (bodies ++ body ∷ []) IsShut [] c
  frame_opens body c b =
      let spelt = to_le_bytes w64 (length body) ++ body in
      record {
        mark = 0;
        rest = b.rest;
        split =
            b.split ∙ (λ i. frames bodies ++ b.is i ∷ append_assoc spelt (0 ∷ []) b.rest i)
            ∙ sym (append_assoc (frames bodies) (frame body) (0 ∷ b.rest))
            ∙ ap (λ l. l ++ 0 ∷ b.rest) (sym (frames-push bodies body));
        is = omega arith;
      }

  -- a closed mark is the end
  pub opens_to : (bytes c : List ℕ) → AllByRecursion Fits bodies → Behind bodies IsShut bytes c → opened c ≡ bodies
  opens_to bytes c fits b = ap (λ l. opened l) b.split ∙ opened_shut bodies b.mark (bytes ++ b.rest) fits b.is

-- what was staged behind any mark is found or it isn't
pub opens_either : (bodies : List (List ℕ)) (body c : List ℕ) → AllByRecursion Fits bodies → Fits body → Behind bodies IsAny (behind_mark body) c → OpensToEither bodies (bodies ++ body ∷ []) c
opens_either bodies body c fits one b = elim (cases_eq b.mark 1) [
  | inl open_mark ↦ inr (opens_to (bodies ++ body ∷ []) [] c (fits-push bodies body fits one) (frame_opens bodies body c (record { mark = b.mark; rest = b.rest; split = b.split; is = open_mark })))
  | inr shut ↦ inl (opens_to bodies (behind_mark body) c fits (record { mark = b.mark; rest = b.rest; split = b.split; is = shut }))
]
