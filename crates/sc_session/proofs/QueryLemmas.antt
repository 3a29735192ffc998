-- Texts of queries that are read and joined one after another.
use Rattle.std.proofs.Common.{◌≡◌, ℕ, suc, ◌+◌, ◌<◌, List, [], ◌∷◌, ◌++◌, ◌-◌, length, get_or, take, drop, refl, sym, ap, ◌∙◌, subst, arith}
use Rattle.std.proofs.Math.Seq.{drop-cons, take-suc}
use Rattle.std.proofs.lemmas.List.{take-append-drop, take_all}
use Rattle.std.specs.List.{All, AllZip}
use Rattle.std.proofs.lemmas.List.Elements.{All-nil, All-cons}
use Rattle.sc_query.specs.Tree.{Tree}
use Rattle.sc_query.specs.Grammar.{HasTree, HasFault}
use Rattle.sc_session.specs.Queries.{HaveJoined, HasTextFault, all_joined}

-- one tree more
all_joined-more : (first : Tree) (others : List Tree) (next : Tree)
    → all_joined first (others ++ next ∷ []) ≡ Tree.And (all_joined first others) next
all_joined-more first [] next = refl
all_joined-more first (tree ∷ trees) next = all_joined-more (Tree.And first tree) trees next

-- one pair more
AllZip-more : {A B : Type 0} (R : A → B → Type 0) (xs : List A) (ys : List B) (x : A) (y : B)
    → AllZip R xs ys → R x y → AllZip R (xs ++ x ∷ []) (ys ++ y ∷ [])
AllZip-more R [] [] x y h r = (r, tt)
AllZip-more R [] (b ∷ ys) x y h r = absurd h
AllZip-more R (a ∷ xs) [] x y h r = absurd h
AllZip-more R (a ∷ xs) (b ∷ ys) x y h r = (h.0, AllZip-more R xs ys x y h.1 r)

-- the text is a query
abbrev pub IsRead : List ℕ → Type 0
IsRead text = (tree : Tree) × HasTree text tree

-- each text of a tree is a query
each_read : (texts : List (List ℕ)) (trees : List Tree) → AllZip HasTree texts trees → All IsRead texts
each_read [] [] h = All-nil IsRead
each_read [] (tree ∷ trees) h = absurd h
each_read (text ∷ texts) [] h = absurd h
each_read (text ∷ texts) (tree ∷ trees) h = All-cons IsRead text texts (tree, h.0) (each_read texts trees h.1)

-- the first text
HaveJoined-one : (text : List ℕ) (tree : Tree) → HasTree text tree → HaveJoined (text ∷ []) tree
HaveJoined-one text tree h =
    record { first = tree; others = []; trees = record { each = (h, tt) }; joined = refl }

-- one text more
HaveJoined-more : (texts : List (List ℕ)) (text : List ℕ) (tree next : Tree)
    → HaveJoined texts tree → HasTree text next → HaveJoined (texts ++ text ∷ []) (Tree.And tree next)
HaveJoined-more texts text tree next h more =
    record {
      first = h.first;
      others = h.others ++ next ∷ [];
      trees = record { each = AllZip-more HasTree texts (h.first ∷ h.others) text next h.trees.each more };
      joined = all_joined-more h.first h.others next ∙ ap (λ (t : Tree). Tree.And t next) h.joined;
    }

-- the first text is no query
HasTextFault-first : (text : List ℕ) (after : List (List ℕ)) (at : ℕ) → HasFault text at
    → HasTextFault (text ∷ after) at
HasTextFault-first text after at h =
    record { before = []; text = text; after = after; texts_are = refl; queries = All-nil IsRead; fault = h }

-- a text after some that were joined is no query
HasTextFault-later : (before after : List (List ℕ)) (text : List ℕ) (tree : Tree) (at : ℕ)
    → HaveJoined before tree → HasFault text at → HasTextFault (before ++ text ∷ after) at
HasTextFault-later before after text tree at joined h =
    record {
      before = before;
      text = text;
      after = after;
      texts_are = refl;
      queries = each_read before (joined.first ∷ joined.others) joined.trees.each;
      fault = h;
    }

-- the texts after the first, as a loop takes them
next_is : (texts : List (List ℕ)) (i : ℕ) (text : List ℕ) → i < length (take (length texts - 1) (drop 1 texts))
    → text ≡ get_or (take (length texts - 1) (drop 1 texts)) i text
    → (suc i < length texts) × (text ≡ get_or texts (suc i) text)
next_is [] i text less is = absurd (omega arith)
next_is (first ∷ texts) i text less is =
    let all : take (length (first ∷ texts) - 1) (drop 1 (first ∷ texts)) ≡ texts =
    take_all (length (first ∷ texts) - 1) texts (omega arith) in
    let within = subst (λ (ts : List (List ℕ)). i < length ts) all less in
    (omega (arith, within), subst (λ (ts : List (List ℕ)). text ≡ get_or ts i text) all is)

-- the texts before, at and after a place
cut : (texts : List (List ℕ)) (i : ℕ) (text : List ℕ) → i < length texts → text ≡ get_or texts i text
    → take i texts ++ text ∷ drop (suc i) texts ≡ texts
cut texts i text less is =
    ap (λ (t : List ℕ). take i texts ++ t ∷ drop (suc i) texts) is
    ∙ ap (λ (ts : List (List ℕ)). take i texts ++ ts) (sym (drop-cons texts i text less)) ∙ take-append-drop i texts

-- the first text of some
pub HaveJoined-first : (texts : List (List ℕ)) (text : List ℕ) (tree : Tree) → 0 < length texts
    → text ≡ get_or texts 0 text → HasTree text tree → HaveJoined (take 1 texts) tree
HaveJoined-first [] text tree some is h = absurd (omega arith)
HaveJoined-first (first ∷ texts) text tree some is h =
    subst (λ (t : List ℕ). HaveJoined (t ∷ []) tree) is (HaveJoined-one text tree h)

-- the text after the first ones that were joined
pub HaveJoined-next : (texts : List (List ℕ)) (i : ℕ) (text : List ℕ) (tree next joined : Tree)
    → i < length (take (length texts - 1) (drop 1 texts))
    → text ≡ get_or (take (length texts - 1) (drop 1 texts)) i text
    → HaveJoined (take (i + 1) texts) tree → HasTree text next → joined ≡ Tree.And tree next
    → HaveJoined (take (i + 1 + 1) texts) joined
HaveJoined-next texts i text tree next joined less is h more same =
    let at = next_is texts i text less is in
    let one : i + 1 ≡ suc i = omega arith in
    let two : i + 1 + 1 ≡ suc (suc i) = omega arith in
    let before = subst (λ (n : ℕ). HaveJoined (take n texts) tree) one h in
    let longer : take (suc i) texts ++ text ∷ [] ≡ take (suc (suc i)) texts =
    ap (λ (t : List ℕ). take (suc i) texts ++ t ∷ []) at.1 ∙ sym (take-suc texts (suc i) text at.0) in
    subst (λ (n : ℕ). HaveJoined (take n texts) joined) (sym two)
    (subst (λ (ts : List (List ℕ)). HaveJoined ts joined) longer
    (subst (λ (t : Tree). HaveJoined (take (suc i) texts ++ text ∷ []) t) (sym same)
    (HaveJoined-more (take (suc i) texts) text tree next before more)))

-- the first text of some is no query
pub HasTextFault-one : (texts : List (List ℕ)) (text : List ℕ) (at : ℕ) → 0 < length texts
    → text ≡ get_or texts 0 text → HasFault text at → HasTextFault texts at
HasTextFault-one [] text at some is h = absurd (omega arith)
HasTextFault-one (first ∷ texts) text at some is h =
    subst (λ (t : List ℕ). HasTextFault (t ∷ texts) at) is (HasTextFault-first text texts at h)

-- the text after the first ones that were joined is no query
pub HasTextFault-next : (texts : List (List ℕ)) (i : ℕ) (text : List ℕ) (tree : Tree) (at : ℕ)
    → i < length (take (length texts - 1) (drop 1 texts))
    → text ≡ get_or (take (length texts - 1) (drop 1 texts)) i text
    → HaveJoined (take (i + 1) texts) tree → HasFault text at → HasTextFault texts at
HasTextFault-next texts i text tree at less is h fault =
    let place = next_is texts i text less is in
    let one : i + 1 ≡ suc i = omega arith in
    let before = subst (λ (n : ℕ). HaveJoined (take n texts) tree) one h in
    subst (λ (ts : List (List ℕ)). HasTextFault ts at) (cut texts (suc i) text place.0 place.1)
    (HasTextFault-later (take (suc i) texts) (drop (suc (suc i)) texts) text tree at before fault)
