-- A term that was pushed: a mark, and what it stands for.
use Rattle.std.proofs.Common.{◌≡◌, ◌∙◌, ℕ, ◌^◌, ◌<◌, true, List, [], ◌∷◌, ◌++◌, length, drop, Option, Some, None, sym, ap, append_assoc, append-nil}
use Rattle.std.specs.Prelude.{OnOk, Result, Ok, Err, IsTrue}
use Rattle.std.specs.Int.{Width, w16, w32, to_le_bytes}
use Rattle.std.specs.Str.{is_utf8}
use Rattle.sc_spelling.specs.Reading.{◌>>=◌, number_at, cut_text, text_at}
use Rattle.sc_record.specs.TermRuns.{key_at, name_or, AddsKey, AddsName, AddsTerm}
use Rattle.sc_record.proofs.TermReadLemmas.{short_key, long_key, whole_name, key_of_same_field, key_of_named_field}

-- a mark, and what was put after it
after_mark : (old between new : List ℕ) (mark : ℕ) (text : List ℕ) → between ≡ old ++ mark ∷ [] → new ≡ between ++ text → new ≡ old ++ mark ∷ text
after_mark old between new mark text first then = then ∙ ap (λ (l : List ℕ). l ++ text) first ∙ append_assoc old (mark ∷ []) text

-- a name after its mark
pub adds_name : {T E : Type 0} (doc name old between new : List ℕ) (r : Result T E) → between ≡ old ++ 253 ∷ [] → OnOk r (length name < 2 ^ 16) → OnOk r (IsTrue (is_utf8 name))
    → OnOk r (new ≡ between ++ (to_le_bytes w16 (length name) ++ name)) → OnOk r (AddsName doc name old new)
adds_name doc name old between new (Err e) mark fits text bytes = tt
adds_name doc name old between new (Ok x) mark fits text bytes = record {
  more = 253 ∷ (to_le_bytes w16 (length name) ++ name);
  whole = after_mark old between new 253 (to_le_bytes w16 (length name) ++ name) mark bytes;
  reads = λ before rest. ap (λ (l : List ℕ). name_or before doc (253 ∷ l)) (append_assoc (to_le_bytes w16 (length name)) name rest) ∙ whole_name before doc name rest fits text;
}

-- a key after its length
pub adds_long_key : {T E : Type 0} (doc key old between new : List ℕ) (r : Result T E) → between ≡ old ++ 251 ∷ [] → OnOk r (length key < 2 ^ 32) → OnOk r (IsTrue (is_utf8 key))
    → OnOk r (new ≡ between ++ (to_le_bytes w32 (length key) ++ key)) → OnOk r (AddsKey doc key old new)
adds_long_key doc key old between new (Err e) mark fits text bytes = tt
adds_long_key doc key old between new (Ok x) mark fits text bytes = record {
  more = 251 ∷ (to_le_bytes w32 (length key) ++ key);
  whole = after_mark old between new 251 (to_le_bytes w32 (length key) ++ key) mark bytes;
  reads = ap (λ (k : List ℕ). key_at doc (251 ∷ (to_le_bytes w32 (length key) ++ k))) (sym (append-nil key)) ∙ long_key doc key [] fits text;
}

-- a key after its length as a mark
pub adds_short_key : {T E : Type 0} (doc key old between new : List ℕ) (r : Result T E) → length key < 251 → is_utf8 key ≡ true → between ≡ old ++ length key ∷ []
    → OnOk r (new ≡ between ++ key) → OnOk r (AddsKey doc key old new)
adds_short_key doc key old between new (Err e) fits text mark bytes = tt
adds_short_key doc key old between new (Ok x) fits text mark bytes = record {
  more = length key ∷ key;
  whole = after_mark old between new (length key) key mark bytes;
  reads = ap (λ (k : List ℕ). key_at doc (length key ∷ k)) (sym (append-nil key)) ∙ short_key doc key [] fits text;
}

-- a key alone
pub adds_same : (doc key old new : List ℕ) → AddsKey doc key old new → AddsTerm doc None key old new
adds_same doc key old new added = record {
  more = added.more;
  whole = added.whole;
  reads = λ before. key_of_same_field before doc added.more key added.reads;
}

-- a name and a key
pub adds_named : (doc name key old between new : List ℕ) → AddsName doc name old between → AddsKey doc key between new → AddsTerm doc (Some name) key old new
adds_named doc name key old between new first then = record {
  more = first.more ++ then.more;
  whole = then.whole ∙ ap (λ (l : List ℕ). l ++ then.more) first.whole ∙ append_assoc old first.more then.more;
  reads = λ before. key_of_named_field before doc name first.more key then.more first.reads then.reads;
}

-- a text that begins what comes after its length stands there
pub stands : (w : Width) (doc text from : List ℕ) (place n : ℕ) (rest : List ℕ) → from ≡ drop place doc → number_at w from ≡ Some (n, rest)
    → cut_text n rest ≡ Some (text, drop n rest) → text_at w (drop place doc) ≡ Some (text, drop n rest)
unfolding text_at
stands w doc text from place n rest is number cut =
    ap (λ (b : List ℕ). number_at w b >>= λ n. cut_text n.0 n.1) (sym is) ∙ ap (λ (o : Option (ℕ × List ℕ)). o >>= λ n. cut_text n.0 n.1) number ∙ cut
