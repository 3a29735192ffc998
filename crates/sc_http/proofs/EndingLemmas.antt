-- Bytes have one ending, and none where they begin with a request.
use Rattle.std.proofs.Common.{◌≡◌, ℕ, ◌<◌, ◌≤◌, ◌⊎◌, inl, inr, Bool, IsTrue, true, false, List, [], ◌∷◌, ◌++◌, length, drop, Ok, Err, Result, refl, sym, ap, ◌∙◌, subst, arith, append_assoc, length-append, length-take}
use Rattle.std.specs.Prelude.{nat_le, IsUtf8}
use Rattle.std.proofs.lemmas.Bool.{cases_lt}
use Rattle.std.proofs.lemmas.Bool.Decides.{nat_tests}
use Rattle.std.proofs.lemmas.List.{take_all, take-append-drop}
use Rattle.std.proofs.lemmas.List.Elements.{All-append, All-cons, All-nil}
use Rattle.std.proofs.lemmas.Str.{IsUtf8-append, IsUtf8-from_ascii}
use Rattle.std.proofs.lemmas.Str.Ascii.{IsAscii-from_all}
use Rattle.httparse.specs.Grammar.{AllPass, LineEnd, lf, print_blank, print_version, IsToken, RequestHead, print_request, ReadsRequest, HasNoRequest, NeverHasRequest, MayBecomeRequest, is_token_byte, is_uri_byte}
use Rattle.httparse.proofs.GrammarLemmas.{print_request-append, request_unique}
use Rattle.sc_chunks.specs.Endings.{partial as partial_coding, malformed as malformed_coding, too_large as too_large_coding}
use Rattle.sc_chunks.proofs.EndLemmas.{one_coding_end}
use Rattle.sc_model.specs.Heads.{Framing, of_length, chunked, LengthFault, malformed_length, too_large_length, head_limit, line_limit, body_framing}
use Rattle.sc_model.specs.Messages.{HasHead, window, Ending, done, cut, bad_head, too_large, HasTooManyLines, EndsInHead, HasMalformedHead, HasLongHead, EndsSo}
use Rattle.sc_http.specs.Laws.{NoEndingOfRequest, OneEnding, EndsInInvalidTarget, MayEndInTwoWays, open_ending}
use Rattle.sc_http.proofs.HeadEndLemmas.{head_splits, but_last}
use Rattle.sc_http.proofs.LineLimitLemmas.{begins_longer, exceeds_ends, few_in_head}
use Rattle.sc_http.specs.Bodies.{ending_in_coding, EndsBody}
use Rattle.sc_http.proofs.MessageLemmas.{exceeds-append, no_body}

-- a target that is whole can be that of a head
abbrev tail : List ℕ
tail = 32 ∷ (print_version 1 ++ (10 ∷ 10 ∷ []))

target_head : (blank : List LineEnd) (method target : List ℕ) → IsToken method → AllPass is_uri_byte target → IsUtf8 target → 0 < length target
    → (h : RequestHead) × ReadsRequest (print_blank blank ++ (method ++ 32 ∷ (target ++ tail))) h []
target_head blank method target token uri utf8 some =
    let h : RequestHead = record { blank = blank; method = method; target = target; minor = 1; line_end = lf; fields = []; last = lf } in
    (h, (record { method = token; target = (some, uri); target_text = utf8; minor = omega arith; fields = λ i d inside. absurd (omega arith) }, sym (print_request-append h [])))

-- nothing begins with a head
nothing_read : (bytes : List ℕ) (h : RequestHead) (rest : List ℕ) → bytes ≡ [] → ReadsRequest bytes h rest → ⊥
nothing_read bytes h rest none reads =
    let a = ap length (sym none ∙ reads.1) in
    let b = length-append (print_request h) rest in
    let c = ap length (head_splits h) in
    let d = length-append (but_last h) (10 ∷ []) in
    omega (arith, a, b, c, d)

-- what begins the bytes begins their window, if it is no longer
window_begins : (bytes prefix rest : List ℕ) → bytes ≡ prefix ++ rest → length prefix ≤ head_limit → (more : List ℕ) × (window bytes ≡ prefix ++ more)
window_begins bytes prefix rest split short =
    let a = length-take head_limit bytes in
    let b = ap length split in
    let c = length-append prefix rest in
    begins_longer (window bytes) (drop head_limit bytes) prefix rest (take-append-drop head_limit bytes ∙ split) (omega (arith, a, b, c, short))

module _ (bytes : List ℕ) (h : RequestHead) (rest : List ℕ) (has : HasHead bytes h rest) where
  head_in_window : HasNoRequest (window bytes) → ⊥
  head_in_window none =
      let part = window_begins bytes (print_request h) rest has.reads.1 has.bytes_within in
      none h part.0 (has.reads.0, part.1)

  head_few : HasTooManyLines (window bytes) → ⊥
  head_few many =
      few_in_head bytes h rest has
      (subst HasTooManyLines (take-append-drop head_limit bytes) (exceeds-append (window bytes) (drop head_limit bytes) many))

  head_well_formed : HasMalformedHead bytes → ⊥
  head_well_formed malformed =
      malformed.never malformed.begins.0 h rest (subst (λ (xs : List ℕ). ReadsRequest xs h rest) (sym malformed.begins.1) has.reads)

-- a malformed head has no more header lines than may be before it is malformed
malformed_few : (bytes : List ℕ) → HasMalformedHead bytes → HasTooManyLines (window bytes) → ⊥
malformed_few bytes malformed (prefix, rest, split, h, reads, many) = by_length (cases_lt (length malformed.prefix) (length prefix))
  where
    whole : malformed.prefix ++ malformed.begins.0 ≡ prefix ++ (rest ++ drop head_limit bytes)
    whole = malformed.begins.1 ∙ sym (take-append-drop head_limit bytes) ∙ ap (λ xs. xs ++ drop head_limit bytes) split ∙ append_assoc prefix rest (drop head_limit bytes)

    by_length : (length malformed.prefix < length prefix) ⊎ (length prefix ≤ length malformed.prefix) → ⊥
    by_length (inl less) =
        let part = begins_longer prefix (rest ++ drop head_limit bytes) malformed.prefix malformed.begins.0 (sym whole) (omega (arith, less)) in
        malformed.never (part.0 ++ 10 ∷ []) h []
        (subst (λ (xs : List ℕ). ReadsRequest xs h []) (ap (λ xs. xs ++ 10 ∷ []) part.1 ∙ append_assoc malformed.prefix part.0 (10 ∷ [])) reads)
    by_length (inr more) =
        let part = begins_longer malformed.prefix malformed.begins.0 prefix (rest ++ drop head_limit bytes) whole more in
        malformed.few_lines (prefix, part.0, part.1, h, reads, many)

slash_utf8 : IsUtf8 (47 ∷ [])
slash_utf8 = IsUtf8-from_ascii (47 ∷ []) (IsAscii-from_all (47 ∷ []) (All-cons (λ b. b < 128) 47 [] (omega arith) (All-nil (λ b. b < 128))))

-- bytes that never have a head, and may still become one, end inside a target that can't be UTF-8
open_target : (bytes : List ℕ) → NeverHasRequest bytes → MayBecomeRequest bytes → EndsInInvalidTarget bytes
open_target bytes never (inl (more, h, reads)) = absurd (never more h [] reads)
open_target bytes never (inr (blank, method, target, token, uri, split)) = record {
  blank = blank;
  method = method;
  target = target;
  is_method = token;
  is_target = uri;
  split = split;
  invalid = λ more passes utf8.
      let slash : AllPass is_uri_byte (47 ∷ []) = All-cons (λ b. IsTrue (is_uri_byte b)) 47 [] refl (All-nil (λ b. IsTrue (is_uri_byte b))) in
      let whole = (target ++ more) ++ 47 ∷ [] in
      let pass : AllPass is_uri_byte whole =
      All-append (λ b. IsTrue (is_uri_byte b)) (target ++ more) (47 ∷ []) (All-append (λ b. IsTrue (is_uri_byte b)) target more uri passes) slash in
      let long = length-append (target ++ more) (47 ∷ []) in
      let made = target_head blank method whole token pass (IsUtf8-append (target ++ more) (47 ∷ []) utf8 (slash_utf8)) (omega (arith, long)) in
      never (more ++ 47 ∷ tail) made.0 []
      (subst (λ (xs : List ℕ). ReadsRequest xs made.0 []) (sym (ap (λ xs. xs ++ (more ++ 47 ∷ tail)) (split ∙ append_assoc (print_blank blank) method (32 ∷ target)) ∙ regroup (print_blank blank) method target more tail)) made.1);
}
  where
    cons-append : (x : ℕ) (a b : List ℕ) → (x ∷ a) ++ b ≡ x ∷ (a ++ b)
    cons-append x a b = refl

    regroup : (a b c d e : List ℕ) → (a ++ (b ++ 32 ∷ c)) ++ (d ++ 47 ∷ e) ≡ a ++ (b ++ 32 ∷ (((c ++ d) ++ 47 ∷ []) ++ e))
    regroup a b c d e = simp (append_assoc, cons-append)

-- the window of bytes with a malformed head never has one
never_in_window : (bytes : List ℕ) → HasMalformedHead bytes → NeverHasRequest (window bytes)
never_in_window bytes malformed more h rest reads =
    let part = window_begins bytes malformed.prefix malformed.begins.0 (sym malformed.begins.1) malformed.within in
    malformed.never (part.0 ++ more) h rest
    (subst (λ (xs : List ℕ). ReadsRequest xs h rest) (ap (λ xs. xs ++ more) part.1 ∙ append_assoc malformed.prefix part.0 more) reads)

-- more bytes could make a head of none
g_token : IsToken (71 ∷ [])
unfolding is_token_byte
g_token = (omega arith, All-cons (λ b. IsTrue (is_token_byte b)) 71 [] refl (All-nil (λ b. IsTrue (is_token_byte b))))

pub nothing_well_formed : HasMalformedHead [] → ⊥
nothing_well_formed malformed =
    let slash : AllPass is_uri_byte (47 ∷ []) = All-cons (λ b. IsTrue (is_uri_byte b)) 47 [] refl (All-nil (λ b. IsTrue (is_uri_byte b))) in
    let made = target_head [] (71 ∷ []) (47 ∷ []) g_token slash (slash_utf8) (omega arith) in
    never_in_window [] malformed (71 ∷ 32 ∷ 47 ∷ tail) made.0 [] made.1

-- ---- endings

-- nothing ends only as nothing does
nothing_ends : (other : Ending) → EndsSo [] other → other ≡ done
nothing_ends done ends = refl
nothing_ends cut (inl in_head) = absurd (omega (arith, in_head.some))
nothing_ends cut (inr (inl (h, rest, whole, has, framed, short))) = absurd (nothing_read [] h rest refl has.reads)
nothing_ends cut (inr (inr (h, rest, has, framed, ends))) = absurd (nothing_read [] h rest refl has.reads)
nothing_ends bad_head (inl malformed) = absurd (nothing_well_formed malformed)
nothing_ends bad_head (inr (inl (h, rest, has, states))) = absurd (nothing_read [] h rest refl has.reads)
nothing_ends bad_head (inr (inr (h, rest, has, framed, ends))) = absurd (nothing_read [] h rest refl has.reads)
nothing_ends too_large (inl long) = absurd (omega (arith, long.more))
nothing_ends too_large (inr (inl many)) = absurd (omega (arith, exceeds_ends line_limit [] many))
nothing_ends too_large (inr (inr (inl (h, rest, has, states)))) = absurd (nothing_read [] h rest refl has.reads)
nothing_ends too_large (inr (inr (inr (h, rest, has, framed, ends)))) = absurd (nothing_read [] h rest refl has.reads)

-- how bytes end after a whole head, by the framing that it states
abbrev ending_of_fault : LengthFault → Ending
ending_of_fault malformed_length = bad_head
ending_of_fault too_large_length = too_large

abbrev EndsAfter : Result Framing LengthFault → List ℕ → Ending → Type 0
EndsAfter (Ok framing) rest ending = EndsBody framing rest ending
EndsAfter (Err fault) rest ending = ending ≡ ending_of_fault fault

abbrev EndsAfterHead : List ℕ → Ending → Type 0
EndsAfterHead bytes ending = (h : RequestHead) × (rest : List ℕ) × HasHead bytes h rest × EndsAfter (body_framing h) rest ending

after_one : (r : Result Framing LengthFault) (rest : List ℕ) (ending other : Ending) → EndsAfter r rest ending → EndsAfter r rest other → ending ≡ other
after_one (Ok (of_length whole)) rest ending other a b = a.0 ∙ sym b.0
after_one (Ok chunked) rest ending other (end, ends, is) (end', ends', is') = is ∙ ap ending_in_coding (one_coding_end rest end end' ends ends') ∙ sym is'
after_one (Err fault) rest ending other a b = a ∙ sym b

-- how they end in a head
data EndsBefore (bytes : List ℕ) : Ending → Type 0 where
  in_head : EndsInHead bytes → EndsBefore bytes cut
  malformed : HasMalformedHead bytes → EndsBefore bytes bad_head
  long : HasLongHead bytes → EndsBefore bytes too_large
  many : HasTooManyLines (window bytes) → EndsBefore bytes too_large

after : (bytes : List ℕ) (h : RequestHead) (rest : List ℕ) (ending : Ending) (r : Result Framing LengthFault) → HasHead bytes h rest
    → body_framing h ≡ r → EndsAfter r rest ending → EndsAfterHead bytes ending
after bytes h rest ending r has framed ends = (h, rest, has, subst (λ (x : Result Framing LengthFault). EndsAfter x rest ending) (sym framed) ends)

sides : (bytes : List ℕ) (ending : Ending) → EndsSo bytes ending → (bytes ≡ []) ⊎ (EndsAfterHead bytes ending ⊎ EndsBefore bytes ending)
sides bytes done ends = inl ends
sides bytes cut (inl open_) = inr (inr (in_head open_))
sides bytes cut (inr (inl (h, rest, whole, has, framed, short))) = inr (inl (after bytes h rest cut (Ok (of_length whole)) has framed (refl, short)))
sides bytes cut (inr (inr (h, rest, has, framed, ends))) = inr (inl (after bytes h rest cut (Ok chunked) has framed (partial_coding, ends, refl)))
sides bytes bad_head (inl bad) = inr (inr (malformed bad))
sides bytes bad_head (inr (inl (h, rest, has, states))) = inr (inl (after bytes h rest bad_head (Err malformed_length) has states refl))
sides bytes bad_head (inr (inr (h, rest, has, framed, ends))) = inr (inl (after bytes h rest bad_head (Ok chunked) has framed (malformed_coding, ends, refl)))
sides bytes too_large (inl more) = inr (inr (long more))
sides bytes too_large (inr (inl lines)) = inr (inr (many lines))
sides bytes too_large (inr (inr (inl (h, rest, has, states)))) = inr (inl (after bytes h rest too_large (Err too_large_length) has states refl))
sides bytes too_large (inr (inr (inr (h, rest, has, framed, ends)))) =
    inr (inl (after bytes h rest too_large (Ok chunked) has framed (too_large_coding, ends, refl)))

-- no head is whole where they end before it
not_before : (bytes : List ℕ) (ending : Ending) (h : RequestHead) (rest : List ℕ) → HasHead bytes h rest → EndsBefore bytes ending → ⊥
not_before bytes ending h rest has (in_head open_) = open_.partial h rest has.reads
not_before bytes ending h rest has (malformed bad) = head_well_formed bytes h rest has bad
not_before bytes ending h rest has (long more) = head_in_window bytes h rest has more.partial
not_before bytes ending h rest has (many lines) = head_few bytes h rest has lines

window_whole : (bytes : List ℕ) → length bytes ≤ head_limit → window bytes ≡ bytes
window_whole bytes fits = take_all head_limit bytes fits

open_is_cut : (bytes : List ℕ) → length bytes ≤ head_limit → cut ≡ open_ending bytes
open_is_cut bytes fits = by_test (nat_le (length bytes) head_limit) refl
  where
    by_test : (b : Bool) → nat_le (length bytes) head_limit ≡ b → cut ≡ open_ending bytes
    by_test true e = rw e refl
    by_test false e = absurd (grind (arith, nat_tests))

open_is_large : (bytes : List ℕ) → head_limit < length bytes → too_large ≡ open_ending bytes
open_is_large bytes above = by_test (nat_le (length bytes) head_limit) refl
  where
    by_test : (b : Bool) → nat_le (length bytes) head_limit ≡ b → too_large ≡ open_ending bytes
    by_test true e = absurd (grind (arith, nat_tests))
    by_test false e = rw e refl

open_window : (bytes : List ℕ) → HasMalformedHead bytes → MayBecomeRequest (window bytes) → EndsInInvalidTarget (window bytes)
open_window bytes bad may = open_target (window bytes) (never_in_window bytes bad) may

open_bytes : (bytes : List ℕ) → HasMalformedHead bytes → EndsInHead bytes → EndsInInvalidTarget (window bytes)
open_bytes bytes bad open_ = open_window bytes bad (subst MayBecomeRequest (sym (window_whole bytes open_.within)) open_.open_)

many_here : (bytes : List ℕ) → EndsInHead bytes → HasTooManyLines (window bytes) → ⊥
many_here bytes open_ lines = open_.few_lines (subst HasTooManyLines (window_whole bytes open_.within) lines)

both_before : (bytes : List ℕ) (ending other : Ending) → EndsBefore bytes ending → EndsBefore bytes other → (ending ≡ other) ⊎ MayEndInTwoWays bytes ending other
both_before bytes ending other (in_head a) (in_head b) = inl refl
both_before bytes ending other (in_head a) (malformed b) = inr (open_bytes bytes b a, inr (open_is_cut bytes a.within, refl))
both_before bytes ending other (in_head a) (long b) = absurd (omega (arith, a.within, b.more))
both_before bytes ending other (in_head a) (many b) = absurd (many_here bytes a b)
both_before bytes ending other (malformed a) (in_head b) = inr (open_bytes bytes a b, inl (refl, open_is_cut bytes b.within))
both_before bytes ending other (malformed a) (malformed b) = inl refl
both_before bytes ending other (malformed a) (long b) = inr (open_window bytes a b.open_, inl (refl, open_is_large bytes b.more))
both_before bytes ending other (malformed a) (many b) = absurd (malformed_few bytes a b)
both_before bytes ending other (long a) (in_head b) = absurd (omega (arith, a.more, b.within))
both_before bytes ending other (long a) (malformed b) = inr (open_window bytes b a.open_, inr (open_is_large bytes a.more, refl))
both_before bytes ending other (long a) (long b) = inl refl
both_before bytes ending other (long a) (many b) = inl refl
both_before bytes ending other (many a) (in_head b) = absurd (many_here bytes b a)
both_before bytes ending other (many a) (malformed b) = absurd (malformed_few bytes b a)
both_before bytes ending other (many a) (long b) = inl refl
both_before bytes ending other (many a) (many b) = inl refl

ends_at : (h k : RequestHead) (r q : List ℕ) (ending : Ending) → h ≡ k → r ≡ q → EndsAfter (body_framing k) q ending → EndsAfter (body_framing h) r ending
ends_at h k r q ending heads rests ends =
    subst (λ (x : RequestHead). EndsAfter (body_framing x) r ending) (sym heads) (subst (λ (xs : List ℕ). EndsAfter (body_framing k) xs ending) (sym rests) ends)

-- bytes have one ending, but for a target that can't be UTF-8
pub one_ending : OneEnding
one_ending bytes ending other a b = by_sides (sides bytes ending a) (sides bytes other b)
  where
    by_sides : (bytes ≡ []) ⊎ (EndsAfterHead bytes ending ⊎ EndsBefore bytes ending) → (bytes ≡ []) ⊎ (EndsAfterHead bytes other ⊎ EndsBefore bytes other)
        → (ending ≡ other) ⊎ MayEndInTwoWays bytes ending other
    by_sides (inl none) y = inl (nothing_ends ending (subst (λ (xs : List ℕ). EndsSo xs ending) none a) ∙ sym (nothing_ends other (subst (λ (xs : List ℕ). EndsSo xs other) none b)))
    by_sides (inr x) (inl none) = inl (nothing_ends ending (subst (λ (xs : List ℕ). EndsSo xs ending) none a) ∙ sym (nothing_ends other (subst (λ (xs : List ℕ). EndsSo xs other) none b)))
    by_sides (inr (inl (h, r, has, ends))) (inr (inl (k, q, has', ends'))) =
        let same = request_unique bytes h k r q has.reads has'.reads in
        inl (after_one (body_framing h) r ending other ends (ends_at h k r q other same.0 same.1 ends'))
    by_sides (inr (inl (h, r, has, ends))) (inr (inr y)) = absurd (not_before bytes other h r has y)
    by_sides (inr (inr x)) (inr (inl (h, r, has, ends))) = absurd (not_before bytes ending h r has x)
    by_sides (inr (inr x)) (inr (inr y)) = both_before bytes ending other x y

-- bytes that end begin with no request
pub no_ending_of_request : NoEndingOfRequest
no_ending_of_request bytes ending request rest ends read = by_sides (sides bytes ending ends)
  where
    by_sides : (bytes ≡ []) ⊎ (EndsAfterHead bytes ending ⊎ EndsBefore bytes ending) → ⊥
    by_sides (inl none) = nothing_read bytes read.head read.after none read.has.reads
    by_sides (inr (inl (k, q, has, e))) =
        let same = request_unique bytes read.head k read.after q read.has.reads has.reads in
        no_body read.framing read.after ending (subst (λ (x : Result Framing LengthFault). EndsAfter x read.after ending) read.framed
        (ends_at read.head k read.after q ending same.0 same.1 e)) read.body rest read.reads
    by_sides (inr (inr x)) = not_before bytes ending read.head read.after read.has x
