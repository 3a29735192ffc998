-- The last entries of a journal are kept as the last of its marks, and of each list as many as these have of its kind.
use Rattle.std.proofs.Common.{◌≡◌, ◌∙◌, ◌+◌, ◌-◌, ◌≤◌, ℕ, Bool, List, ◌++◌, length, take, drop, sym, ap, arith, length-append, length-take, length-drop}
use Rattle.std.specs.List.{filter}
use Rattle.std.proofs.Math.Seq.{drop-append_seam}
use Rattle.std.proofs.lemmas.List.{take-append-drop}
use Rattle.std.proofs.lemmas.List.Elements.{filter-append}
use Rattle.std.specs.declared.sync.Arc.{Arc}
use Rattle.std.specs.declared.alloc.Global.{Global}
use Rattle.sc_record.specs.Writes.{Write}
use Rattle.sc_record.specs.declared.entry.Entry.{Entry}
use Rattle.sc_bucket.specs.declared.entries.Mark.{Mark}
use Rattle.sc_bucket.specs.Entries.{entries_of, is_write, is_settling, is_other, AreParts}
use Rattle.sc_bucket.proofs.EntriesLemmas.{length-entries_of, entries_of-append}

-- the last n of a list
abbrev pub ends : {A : Type 0} → ℕ → List A → List A
ends n xs = drop (length xs - n) xs

-- those before them
abbrev begins : {A : Type 0} → ℕ → List A → List A
begins n xs = take (length xs - n) xs

-- both are the list
whole : {A : Type 0} (n : ℕ) (xs : List A) → begins n xs ++ ends n xs ≡ xs
whole n xs = take-append-drop (length xs - n) xs

-- they are n, where there are as many
pub length-ends : {A : Type 0} (n : ℕ) (xs : List A) → n ≤ length xs → length (ends n xs) ≡ n
length-ends n xs enough = omega (arith, length-drop (length xs - n) xs, enough)

length-begins : {A : Type 0} (n : ℕ) (xs : List A) → length (begins n xs) ≡ length xs - n
length-begins n xs = omega (arith, length-take (length xs - n) xs)

-- as many of the marks pass a test as of those before the last and of the last
count-ends : (p : Mark → Bool) (n : ℕ) (marks : List Mark)
    → length (filter p marks) ≡ length (filter p (begins n marks)) + length (filter p (ends n marks))
count-ends p n marks =
    ap (λ (these : List Mark). length (filter p these)) (sym (whole n marks))
    ∙ ap (λ (these : List Mark). length these) (filter-append p (begins n marks) (ends n marks))
    ∙ length-append (filter p (begins n marks)) (filter p (ends n marks))

-- what a list has for the last marks, and for those before them
abbrev pub of_last : {A : Type 0} → (Mark → Bool) → ℕ → List Mark → List A → List A
of_last p n marks xs = ends (length (filter p (ends n marks))) xs

abbrev of_first : {A : Type 0} → (Mark → Bool) → ℕ → List Mark → List A → List A
of_first p n marks xs = begins (length (filter p (ends n marks))) xs

-- there are enough for the last marks
pub enough_of : {A : Type 0} (p : Mark → Bool) (n : ℕ) (marks : List Mark) (xs : List A) → length xs ≡ length (filter p marks)
    → length (filter p (ends n marks)) ≤ length xs
enough_of p n marks xs each = omega (arith, each, count-ends p n marks)

-- so each list has as many as there are of its kind among the last marks
pub AreParts-last : (marks : List Mark) (writes : List (Arc Write Global)) (settled : List ℕ) (others : List Entry) (n : ℕ)
    → AreParts marks writes settled others
    → AreParts (ends n marks) (of_last is_write n marks writes) (of_last is_settling n marks settled) (of_last is_other n marks others)
AreParts-last marks writes settled others n parts = record {
  each_write = length-ends _ writes (enough_of is_write n marks writes parts.each_write);
  each_settling = length-ends _ settled (enough_of is_settling n marks settled parts.each_settling);
  each_other = length-ends _ others (enough_of is_other n marks others parts.each_other);
}

-- and among those before them
AreParts-first : (marks : List Mark) (writes : List (Arc Write Global)) (settled : List ℕ) (others : List Entry) (n : ℕ)
    → AreParts marks writes settled others
    → AreParts (begins n marks) (of_first is_write n marks writes) (of_first is_settling n marks settled) (of_first is_other n marks others)
AreParts-first marks writes settled others n parts = record {
  each_write = omega (arith, length-begins (length (filter is_write (ends n marks))) writes, parts.each_write, count-ends is_write n marks);
  each_settling = omega (arith, length-begins (length (filter is_settling (ends n marks))) settled, parts.each_settling, count-ends is_settling n marks);
  each_other = omega (arith, length-begins (length (filter is_other (ends n marks))) others, parts.each_other, count-ends is_other n marks);
}

-- they are the last entries
pub entries_of-last : (marks : List Mark) (writes : List (Arc Write Global)) (settled : List ℕ) (others : List Entry) (n : ℕ)
    → AreParts marks writes settled others → n ≤ length marks
    → entries_of (ends n marks) (of_last is_write n marks writes) (of_last is_settling n marks settled) (of_last is_other n marks others)
    ≡ ends n (entries_of marks writes settled others)
entries_of-last marks writes settled others n parts enough =
    let first : List Entry = entries_of (begins n marks) (of_first is_write n marks writes) (of_first is_settling n marks settled) (of_first is_other n marks others) in
    let last : List Entry = entries_of (ends n marks) (of_last is_write n marks writes) (of_last is_settling n marks settled) (of_last is_other n marks others) in
    let before = AreParts-first marks writes settled others n parts in
    let both : entries_of marks writes settled others ≡ first ++ last =
    ap (λ (these : List Mark). entries_of these writes settled others) (sym (whole n marks))
    ∙ ap (λ (these : List (Arc Write Global)). entries_of (begins n marks ++ ends n marks) these settled others)
    (sym (whole (length (filter is_write (ends n marks))) writes))
    ∙ ap (λ (these : List ℕ). entries_of (begins n marks ++ ends n marks) (of_first is_write n marks writes ++ of_last is_write n marks writes) these others)
    (sym (whole (length (filter is_settling (ends n marks))) settled))
    ∙ ap (λ (these : List Entry). entries_of (begins n marks ++ ends n marks) (of_first is_write n marks writes ++ of_last is_write n marks writes)
    (of_first is_settling n marks settled ++ of_last is_settling n marks settled) these)
    (sym (whole (length (filter is_other (ends n marks))) others))
    ∙ entries_of-append (begins n marks) (ends n marks) (of_first is_write n marks writes) (of_last is_write n marks writes)
    (of_first is_settling n marks settled) (of_last is_settling n marks settled) (of_first is_other n marks others) (of_last is_other n marks others) before in
    let many : length (entries_of marks writes settled others) - n ≡ length first =
    omega (
      arith,
      length-entries_of marks writes settled others parts,
      length-entries_of (begins n marks) (of_first is_write n marks writes) (of_first is_settling n marks settled) (of_first is_other n marks others) before,
      length-begins n marks,
    ) in
    sym (ap (drop (length (entries_of marks writes settled others) - n)) both
    ∙ ap (λ (k : ℕ). drop k (first ++ last)) many ∙ drop-append_seam first last)
