-- What is said of the bytes that came is said of the connection's bytes.
use Rattle.std.proofs.Common.{◌≡◌, ℕ, ◌⊎◌, inl, inr, List, [], ◌++◌, length, take, drop, Option, Some, None, Ok, Err, Result, refl, sym, ap, ◌∙◌, subst, arith, append_assoc, append-nil}
use Rattle.std.specs.Prelude.{IfErr, IfSome}
use Rattle.std.proofs.lemmas.List.{take-append-drop}
use mathlib.Core.List.{IsSuffix}
use Rattle.httparse.specs.Grammar.{RequestHead}
use Rattle.sc_chunks.specs.Endings.{CodingEnd, partial as partial_coding, malformed as malformed_coding, too_large as too_large_coding, EndsCoding}
use Rattle.sc_model.specs.Heads.{Framing, of_length, chunked, body_framing, request_of}
use Rattle.sc_model.specs.Messages.{HasHead, ReadsBody, ReadsMessage, HasNoMessage, EndsSo, EndsInHead, Ending, bad_head, too_large}
use Rattle.sc_model.specs.declared.message.Incoming.{Incoming}
use Rattle.sc_http.specs.Ends.{ending_of}
use Rattle.sc_http.specs.Bodies.{HasNoBody, ending_in_coding, EndsBody, GivesBody, LacksBody}
use Rattle.sc_http.specs.HeadEnd.{IsJudged}
use Rattle.sc_http.specs.Lines.{framing_said, IsHeadOf, Describes}
use Rattle.sc_http.specs.Stream.{Gives, KeepsBytes, ReadsWhile, HasEnded, LeavesSuffix, HasNoMessageBefore}
use Rattle.sc_http.specs.declared.head.Head.{Head}
use Rattle.sc_http.specs.declared.end.MessageEnd.{MessageEnd}
use Rattle.sc_http.specs.declared.end.MessageEnd.TheVariants as ends
use Rattle.sc_http.specs.declared.head_end.HeadProgress.TheVariants as stages
use Rattle.sc_http.proofs.HeadEndLemmas.{progress_after, open_not_found}
use Rattle.sc_http.proofs.StreamLemmas.{reads_after, whole_is}
use Rattle.sc_http.proofs.MessageLemmas.{HasHead-append, ReadsBody-append, ends-append, no_message_in_body}

-- how the bytes that came end is how all end, where a head's end or too many bytes have come
judged_ends : (r : Result Head MessageEnd) (left more : List ℕ) → IsJudged left → IfErr r (λ end. IfSome (ending_of end) (EndsSo left))
    → (r ≡ Err ends.Cut → EndsInHead left) → IfErr r (λ end. IfSome (ending_of end) (EndsSo (left ++ more)))
judged_ends (Ok head) left more judged e in_head = tt
judged_ends (Err ends.Done) left more (inl found) e in_head = absurd (apart (sym (ap (progress_after stages.Before) e) ∙ found))
  where
    apart : stages.Before ≡ stages.End → ⊥
    apart same = cc
judged_ends (Err ends.Done) left more (inr long) e in_head = absurd (omega (arith, long, ap length e))
judged_ends (Err ends.Cut) left more (inl found) e in_head = absurd (open_not_found left (in_head refl).partial (in_head refl).open_ found)
judged_ends (Err ends.Cut) left more (inr long) e in_head = absurd (omega (arith, long, (in_head refl).within))
judged_ends (Err ends.BadHead) left more judged e in_head = ends-append left more bad_head (λ same. cc) (λ same. cc) e
judged_ends (Err ends.TooLarge) left more judged e in_head = ends-append left more too_large (λ same. cc) (λ same. cc) e
judged_ends (Err ends.ReadFault) left more judged e in_head = tt
judged_ends (Err ends.Memory) left more judged e in_head = tt

unreported : (r : Result Head MessageEnd) → IfErr r (λ end. IfSome (ending_of end) (λ ending. Unit {0}))
unreported (Ok head) = tt
unreported (Err ends.Done) = tt
unreported (Err ends.Cut) = tt
unreported (Err ends.BadHead) = tt
unreported (Err ends.TooLarge) = tt
unreported (Err ends.ReadFault) = tt
unreported (Err ends.Memory) = tt

-- the end of a reading of a head, of the connection's bytes
pub head_ends : (r : Result Head MessageEnd) (left before : List ℕ) (old new : Option (List ℕ)) → KeepsBytes [] left before old new
    → IsJudged left ⊎ HasEnded old new → IfErr r (λ end. IfSome (ending_of end) (EndsSo left)) → (r ≡ Err ends.Cut → EndsInHead left)
    → IfErr r (λ end. IfSome (ending_of end) (λ ending. IfSome old (λ bytes. EndsSo (before ++ bytes) ending)))
head_ends r left before None new given state e in_head = unreported r
head_ends r left before (Some bytes) new given (inl judged) e in_head =
    subst (λ (xs : List ℕ). IfErr r (λ end. IfSome (ending_of end) (EndsSo xs)))
    (sym (whole_is left before given.piece bytes given.gives.more given.whole given.gives.whole)) (judged_ends r left given.gives.more judged e in_head)
head_ends r left before (Some bytes) new given (inr ended) e in_head =
    let reported : Some given.gives.more ≡ Some [] = sym given.gives.left ∙ ended in
    let none : given.gives.more ≡ [] = cc in
    subst (λ (xs : List ℕ). IfErr r (λ end. IfSome (ending_of end) (EndsSo xs)))
    (sym (whole_is left before given.piece bytes given.gives.more given.whole given.gives.whole ∙ ap (λ xs. left ++ xs) none ∙ append-nil left)) e

-- what follows the head that was kept
after_head : (kept : Head) (left before bytes : List ℕ) (mid : Option (List ℕ)) → (given : KeepsBytes [] left before (Some bytes) mid) → (of : IsHeadOf left kept)
    → HasHead (before ++ bytes) of.head (drop kept.size left ++ given.gives.more)
after_head kept left before bytes mid given of =
    subst (λ (xs : List ℕ). HasHead xs of.head (drop kept.size left ++ given.gives.more))
    (sym (whole_is left before given.piece bytes given.gives.more given.whole given.gives.whole))
    (HasHead-append left of.head (drop kept.size left) given.gives.more of.has)

-- a request is read: its head, and the body after it
pub message_read : (kept : Head) (left before body rest : List ℕ) (request : Incoming) (old mid new : Option (List ℕ))
    → KeepsBytes [] left before old mid → IsHeadOf left kept → GivesBody (framing_said kept.framing) body rest (drop kept.size left) mid new
    → ((h : _) → Describes kept h → request ≡ request_of h body)
    → IfSome old (λ bytes. IfSome new (λ more. ReadsMessage (before ++ bytes) request (rest ++ more)))
message_read kept left before body rest request None mid new given of given' is = tt
message_read kept left before body rest request (Some bytes) mid new given of given' is =
    let second : Gives given'.piece (Some given.gives.more) new = subst (λ (o : Option (List ℕ)). Gives given'.piece o new) given.gives.left given'.gives in
    let here : (drop kept.size left ++ given'.piece) ++ second.more ≡ drop kept.size left ++ given.gives.more =
    append_assoc (drop kept.size left) given'.piece second.more ∙ ap (λ xs. drop kept.size left ++ xs) (sym second.whole) in
    subst (λ (o : Option (List ℕ)). IfSome o (λ more. ReadsMessage (before ++ bytes) request (rest ++ more))) (sym second.left) (record {
      head = of.head;
      framing = framing_said kept.framing;
      after = drop kept.size left ++ given.gives.more;
      body = body;
      has = after_head kept left before bytes mid given of;
      framed = of.describes.framed;
      reads = subst (λ (xs : List ℕ). ReadsBody (framing_said kept.framing) xs body (rest ++ second.more)) here
          (ReadsBody-append (framing_said kept.framing) (drop kept.size left ++ given'.piece) second.more body rest given'.reads);
      is = is of.head of.describes;
    })

-- how bytes end inside a body is how they end
ends_in_body : (framing : Framing) (bytes : List ℕ) (h : RequestHead) (after : List ℕ) (ending : Ending) → HasHead bytes h after
    → body_framing h ≡ Ok framing → EndsBody framing after ending → EndsSo bytes ending
ends_in_body (of_length whole) bytes h after ending has framed (is, short) = subst (EndsSo bytes) (sym is) (inr (inl (h, after, whole, has, framed, short)))
ends_in_body chunked bytes h after ending has framed (end, ends, is) = subst (EndsSo bytes) (sym is) (by_end end ends)
  where
    by_end : (e : CodingEnd) → EndsCoding after e → EndsSo bytes (ending_in_coding e)
    by_end partial_coding x = inr (inr (h, after, has, framed, x))
    by_end malformed_coding x = inr (inr (h, after, has, framed, x))
    by_end too_large_coding x = inr (inr (inr (h, after, has, framed, x)))

ends_anyhow : (o : Option Ending) → IfSome o (λ ending. Unit {0})
ends_anyhow None = tt
ends_anyhow (Some ending) = tt

-- how the bytes end where a body was not read
pub body_ends : (o : Option Ending) (kept : Head) (left before : List ℕ) (old mid : Option (List ℕ)) → KeepsBytes [] left before old mid → IsHeadOf left kept
    → IfSome o (λ ending. IfSome mid (λ bytes. EndsBody (framing_said kept.framing) (drop kept.size left ++ bytes) ending))
    → IfSome o (λ ending. IfSome old (λ bytes. EndsSo (before ++ bytes) ending))
body_ends o kept left before None mid given of ends = ends_anyhow o
body_ends None kept left before (Some bytes) mid given of ends = tt
body_ends (Some ending) kept left before (Some bytes) mid given of ends =
    let here : EndsBody (framing_said kept.framing) (drop kept.size left ++ given.gives.more) ending =
    subst (λ (o : Option (List ℕ)). IfSome o (λ xs. EndsBody (framing_said kept.framing) (drop kept.size left ++ xs) ending)) given.gives.left ends in
    ends_in_body (framing_said kept.framing) (before ++ bytes) of.head _ ending (after_head kept left before bytes mid given of) of.describes.framed here

-- no request is whole where the body is not
no_message_kept : (kept : Head) (left more : List ℕ) → IsHeadOf left kept → HasNoBody (framing_said kept.framing) (drop kept.size left ++ more) → HasNoMessage (left ++ more)
no_message_kept kept left more of none =
    no_message_in_body (left ++ more) of.head (drop kept.size left ++ more) (framing_said kept.framing)
    (HasHead-append left of.head (drop kept.size left) more of.has) of.describes.framed none

-- the source failed inside a body
pub body_unfinished : (kept : Head) (left before : List ℕ) (old mid new : Option (List ℕ)) → KeepsBytes [] left before old mid → IsHeadOf left kept
    → LacksBody (framing_said kept.framing) (drop kept.size left) mid new
    → IfSome old (λ bytes. IfSome new (λ more. HasNoMessageBefore more (before ++ bytes)))
body_unfinished kept left before None mid new given of lacks = tt
body_unfinished kept left before (Some bytes) mid new given of lacks =
    let second : Gives lacks.piece (Some given.gives.more) new = subst (λ (o : Option (List ℕ)). Gives lacks.piece o new) given.gives.left lacks.gives in
    let whole = whole_is left before given.piece bytes given.gives.more given.whole given.gives.whole in
    subst (λ (o : Option (List ℕ)). IfSome o (λ more. HasNoMessageBefore more (before ++ bytes))) (sym second.left) (
      left ++ lacks.piece,
      whole ∙ ap (λ xs. left ++ xs) second.whole ∙ sym (append_assoc left lacks.piece second.more),
      no_message_kept kept left lacks.piece of lacks.none,
    )

-- the source failed inside a head
pub head_unfinished : (left before : List ℕ) (old new : Option (List ℕ)) → KeepsBytes [] left before old new → HasNoMessage left
    → IfSome old (λ bytes. IfSome new (λ more. HasNoMessageBefore more (before ++ bytes)))
head_unfinished left before None new given none = tt
head_unfinished left before (Some bytes) new given none =
    subst (λ (o : Option (List ℕ)). IfSome o (λ more. HasNoMessageBefore more (before ++ bytes))) (sym given.gives.left)
    (left, whole_is left before given.piece bytes given.gives.more given.whole given.gives.whole, none)

-- where no body was read, a prefix was given out
pub body_order : (size : ℕ) (left before rest : List ℕ) (old mid new : Option (List ℕ)) → KeepsBytes [] left before old mid
    → LeavesSuffix rest (drop size left) mid new → IfSome old (λ bytes. IfSome new (λ more. IsSuffix (rest ++ more) (before ++ bytes)))
body_order size left before rest None mid new given (out, given') = tt
body_order size left before rest (Some bytes) mid new given (out, given') =
    let second : Gives given'.piece (Some given.gives.more) new = subst (λ (o : Option (List ℕ)). Gives given'.piece o new) given.gives.left given'.gives in
    let whole = whole_is left before given.piece bytes given.gives.more given.whole given.gives.whole in
    subst (λ (o : Option (List ℕ)). IfSome o (λ more. IsSuffix (rest ++ more) (before ++ bytes))) (sym second.left) (
      take size left ++ out,
      sym (whole ∙ ap (λ xs. xs ++ given.gives.more) (sym (take-append-drop size left)) ∙ append_assoc (take size left) (drop size left) given.gives.more
          ∙ ap (λ xs. take size left ++ xs) (whole_is (out ++ rest) (drop size left) given'.piece given.gives.more second.more given'.whole second.whole
          ∙ append_assoc out rest second.more)
          ∙ sym (append_assoc (take size left) out (rest ++ second.more))),
    )

-- where a request is given, what came before the last piece holds none
pub needed_both : {X : Type 0} (rest : X → Option (List ℕ)) (kept : Head) (left before : List ℕ) (old mid new : X)
    → KeepsBytes [] left before (rest old) (rest mid) → IsHeadOf left kept
    → (mid ≡ old) ⊎ ReadsWhile (λ xs. HasNoMessage (before ++ xs)) (rest old) (rest mid)
    → (new ≡ mid) ⊎ ReadsWhile (λ xs. HasNoBody (framing_said kept.framing) (drop kept.size left ++ xs)) (rest mid) (rest new)
    → (new ≡ old) ⊎ ReadsWhile (λ xs. HasNoMessage (before ++ xs)) (rest old) (rest new)
needed_both rest kept left before old mid new given of (inl first) (inl second) = inl (second ∙ first)
needed_both {X} rest kept left before old mid new given of (inr first) (inl second) =
    inr (subst (λ (s : X). ReadsWhile (λ xs. HasNoMessage (before ++ xs)) (rest old) (rest s)) (sym second) first)
needed_both rest kept left before old mid new given of first (inr second) =
    inr (reads_after (λ xs. HasNoBody (framing_said kept.framing) (drop kept.size left ++ xs)) (λ xs. HasNoMessage (before ++ xs)) given.piece (rest old) (rest mid) (rest new)
    given.gives second
    (λ xs none. subst HasNoMessage (ap (λ ys. ys ++ xs) given.whole ∙ append_assoc before given.piece xs) (no_message_kept kept left xs of none)))
