-- Requests and endings where more bytes follow.
use Rattle.std.proofs.Common.{◌≡◌, ◌≢◌, ℕ, ◌+◌, ◌-◌, ◌<◌, ◌≤◌, ◌⊎◌, inl, inr, List, ◌++◌, length, take, drop, Ok, Result, refl, sym, ap, ◌∙◌, subst, arith, append_assoc, append-nil, length-append}
use Rattle.std.proofs.lemmas.Bool.{cases_lt}
use Rattle.std.proofs.lemmas.List.{take_all, take_at, take-append-le, drop_at}
use Rattle.std.proofs.Math.Seq.{take-append-add}
use Rattle.httparse.specs.Grammar.{RequestHead, HasNoRequest, MayBecomeRequest}
use Rattle.httparse.specs.Spans.{RequestExceeds}
use Rattle.httparse.proofs.GrammarLemmas.{ReadsRequest-append, request_unique, request_prefix_free}
use Rattle.sc_chunks.specs.Coding.{Coding, data_of}
use Rattle.sc_chunks.proofs.CodingLemmas.{one_coding}
use Rattle.sc_chunks.proofs.EndLemmas.{no_end_of_coding, coding_stays, malformed_stays, too_large_stays}
use Rattle.sc_model.specs.Heads.{head_limit, line_limit, Framing, of_length, chunked, LengthFault, body_framing, request_of}
use Rattle.sc_model.specs.Messages.{HasHead, window, ReadsBody, HasNoMessage, HasMalformedHead, Ending, done, cut, bad_head, too_large, HasLongHead, EndsSo}
use Rattle.sc_http.specs.Bodies.{HasNoBody, EndsBody}
use Rattle.sc_http.specs.Laws.{OneReading}
use Rattle.sc_http.specs.declared.head_end.HeadProgress.TheVariants as stages
use Rattle.sc_http.proofs.HeadEndLemmas.{progress_after, end_of_head}

-- the window of more bytes begins with that of the first ones
pub window-append : (bytes more : List ℕ) → window (bytes ++ more) ≡ window bytes ++ take (head_limit - length bytes) more
window-append bytes more = by_length (cases_lt (length bytes) head_limit)
  where
    by_length : (length bytes < head_limit) ⊎ (head_limit ≤ length bytes) → window (bytes ++ more) ≡ window bytes ++ take (head_limit - length bytes) more
    by_length (inl less) =
        let whole : head_limit ≡ length bytes + (head_limit - length bytes) = omega arith in
        let fits : length bytes ≤ head_limit = omega arith in
        ap (λ n. take n (bytes ++ more)) whole ∙ take-append-add bytes more (head_limit - length bytes)
        ∙ ap (λ xs. xs ++ take (head_limit - length bytes) more) (sym (take_all head_limit bytes fits))
    by_length (inr full) =
        let none : head_limit - length bytes ≡ 0 = omega arith in
        take-append-le head_limit bytes more full ∙ rw none (sym (append-nil (window bytes)))

pub HasHead-append : (bytes : List ℕ) (head : RequestHead) (rest more : List ℕ) → HasHead bytes head rest → HasHead (bytes ++ more) head (rest ++ more)
HasHead-append bytes head rest more has = record {
  reads = ReadsRequest-append bytes head rest more has.reads;
  bytes_within = has.bytes_within;
  lines_within = has.lines_within;
}

-- lists of one length that begin the same list are the same, and so is what follows
pub same_split : (a b r q : List ℕ) → length a ≡ length b → a ++ r ≡ b ++ q → (a ≡ b) × (r ≡ q)
same_split a b r q long whole = (
  sym (take_at a r (length b) long) ∙ ap (take (length b)) whole ∙ take_at b q (length b) refl,
  sym (drop_at a r (length b) long) ∙ ap (drop (length b)) whole ∙ drop_at b q (length b) refl,
)

-- bytes begin with at most one body of a framing, whatever follows
one_body : (framing : Framing) (bytes more body other rest others : List ℕ) → ReadsBody framing bytes body rest
    → ReadsBody framing (bytes ++ more) other others → (body ≡ other) × (others ≡ rest ++ more)
one_body (of_length whole) bytes more body other rest others (split, long) (split', long') =
    let parts = same_split body other (rest ++ more) others (long ∙ sym long') (sym (append_assoc body rest more) ∙ ap (λ xs. xs ++ more) (sym split) ∙ split') in
    (parts.0, sym parts.1)
one_body chunked bytes more body other rest others (coding, has, is) (coding', has', is') =
    let same = one_coding bytes more coding coding' rest others has.reads has'.reads in
    (is ∙ ap (λ (c : Coding). data_of c.chunks) same.0 ∙ sym is', same.1)

-- what follows a body is its rest
pub ReadsBody-append : (framing : Framing) (bytes more body rest : List ℕ) → ReadsBody framing bytes body rest → ReadsBody framing (bytes ++ more) body (rest ++ more)
ReadsBody-append (of_length whole) bytes more body rest (split, long) = (ap (λ xs. xs ++ more) split ∙ append_assoc body rest more, long)
ReadsBody-append chunked bytes more body rest (coding, has, is) = (coding, coding_stays bytes more coding rest has, is)

-- bytes that end inside a body begin with none
pub no_body : (framing : Framing) (bytes : List ℕ) (ending : Ending) → EndsBody framing bytes ending → HasNoBody framing bytes
no_body (of_length whole) bytes ending ends body rest reads =
    let fits : length bytes ≡ length body + length rest = ap length reads.0 ∙ length-append body rest in
    omega (arith, ends.1, reads.1, fits)
no_body chunked bytes ending (end, ends, is) body rest (coding, has, is') = no_end_of_coding bytes end coding rest ends has

same_framing : (a b : Result Framing LengthFault) (framing other : Framing) → a ≡ Ok framing → a ≡ b → b ≡ Ok other → framing ≡ other
same_framing a b framing other is same is' = cc

-- Bytes begin with at most one request, whatever follows.
pub one_reading : OneReading
one_reading bytes more request other rest others a b =
    let same = request_prefix_free bytes more a.head b.head a.after b.after a.has.reads b.has.reads in
    let framings = same_framing _ _ a.framing b.framing a.framed (ap body_framing same.0) b.framed in
    let reads = subst (λ (xs : List ℕ). ReadsBody a.framing xs b.body others) (sym same.1)
    (subst (λ (f : Framing). ReadsBody f b.after b.body others) (sym framings) b.reads) in
    let parts = one_body a.framing a.after more a.body b.body rest others a.reads reads in
    (a.is ∙ ap (λ x. request_of x a.body) same.0 ∙ ap (request_of b.head) parts.0 ∙ sym b.is, parts.1)

-- no request is whole where the end of its head has not come
pub no_message_yet : (bytes : List ℕ) → progress_after stages.Before bytes ≢ stages.End → HasNoMessage bytes
no_message_yet bytes open_ request rest read = open_ (end_of_head bytes read.head read.after read.has.reads)

-- nor where the body has not come whole
pub no_message_in_body : (bytes : List ℕ) (head : RequestHead) (part : List ℕ) (framing : Framing) → HasHead bytes head part
    → body_framing head ≡ Ok framing → HasNoBody framing part → HasNoMessage bytes
no_message_in_body bytes head part framing has framed none request rest read =
    let same = request_unique bytes head read.head part read.after has.reads read.has.reads in
    let framings = same_framing _ _ framing read.framing framed (ap body_framing same.0) read.framed in
    none read.body rest (subst (λ (xs : List ℕ). ReadsBody framing xs read.body rest) (sym same.1)
    (subst (λ (f : Framing). ReadsBody f read.after read.body rest) (sym framings) read.reads))

malformed-append : (bytes more : List ℕ) → HasMalformedHead bytes → HasMalformedHead (bytes ++ more)
malformed-append bytes more malformed = record {
  prefix = malformed.prefix;
  begins = (malformed.begins.0 ++ more, sym (append_assoc malformed.prefix malformed.begins.0 more) ∙ ap (λ xs. xs ++ more) malformed.begins.1);
  never = malformed.never;
  within = malformed.within;
  few_lines = malformed.few_lines;
}

pub exceeds-append : (bytes more : List ℕ) → RequestExceeds line_limit bytes → RequestExceeds line_limit (bytes ++ more)
exceeds-append bytes more (prefix, rest, split, head, reads, many) =
    (prefix, rest ++ more, ap (λ xs. xs ++ more) split ∙ append_assoc prefix rest more, head, reads, many)

exceeds-window : (bytes more : List ℕ) → RequestExceeds line_limit (window bytes) → RequestExceeds line_limit (window (bytes ++ more))
exceeds-window bytes more exceeds =
    subst (RequestExceeds line_limit) (sym (window-append bytes more)) (exceeds-append (window bytes) (take (head_limit - length bytes) more) exceeds)

long-append : (bytes more : List ℕ) → HasLongHead bytes → HasLongHead (bytes ++ more)
long-append bytes more long =
    let same : window bytes ≡ window (bytes ++ more) = sym (take-append-le head_limit bytes more (omega (arith, long.more))) in
    record {
      more = omega (arith, length-append bytes more, long.more);
      partial = subst HasNoRequest same long.partial;
      open_ = subst MayBecomeRequest same long.open_;
    }

-- an ending that is not that of the input stays, whatever follows
pub ends-append : (bytes more : List ℕ) (ending : Ending) → ending ≢ done → ending ≢ cut → EndsSo bytes ending → EndsSo (bytes ++ more) ending
ends-append bytes more done not_done not_cut ends = absurd (not_done refl)
ends-append bytes more cut not_done not_cut ends = absurd (not_cut refl)
ends-append bytes more bad_head not_done not_cut (inl malformed) = inl (malformed-append bytes more malformed)
ends-append bytes more bad_head not_done not_cut (inr (inl (head, rest, has, states))) = inr (inl (head, rest ++ more, HasHead-append bytes head rest more has, states))
ends-append bytes more bad_head not_done not_cut (inr (inr (head, part, has, framed, ends))) =
    inr (inr (head, part ++ more, HasHead-append bytes head part more has, framed, malformed_stays part more ends))
ends-append bytes more too_large not_done not_cut (inl long) = inl (long-append bytes more long)
ends-append bytes more too_large not_done not_cut (inr (inl exceeds)) = inr (inl (exceeds-window bytes more exceeds))
ends-append bytes more too_large not_done not_cut (inr (inr (inl (head, rest, has, states)))) =
    inr (inr (inl (head, rest ++ more, HasHead-append bytes head rest more has, states)))
ends-append bytes more too_large not_done not_cut (inr (inr (inr (head, part, has, framed, ends)))) =
    inr (inr (inr (head, part ++ more, HasHead-append bytes head part more has, framed, too_large_stays part more ends)))
