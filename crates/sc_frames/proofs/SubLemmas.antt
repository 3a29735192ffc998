-- The slices of a split that are read are spelled so, and what is spelled so is read again, whatever follows it.
use Rattle.std.proofs.Common.{◌≡◌, ℕ, zero, suc, ◌+◌, ◌-◌, ◌^◌, ◌<◌, ◌≤◌, ℤ, ◌≤ℤ◌, Bool, true, cond, ltb, List, [], ◌∷◌, ◌++◌, length, Option, Some, None, refl, sym, ap, subst, ◌∙◌, append_assoc, arith}
use Rattle.std.specs.Prelude.{◌&&◌, int_le}
use Rattle.std.specs.Int.{w32, to_le_bytes, cast_signed, cast_unsigned}
use Rattle.std.specs.List.{flat_map, AllByRecursion}
use Rattle.std.proofs.lemmas.Bool.{ltb-true, lt-ltb}
use Rattle.std.proofs.lemmas.Int.{to_z-of_z, of_z-to_z}
use Rattle.std.proofs.lemmas.List.{append-nil}
use Rattle.std.proofs.lemmas.List.Concat.{flat_map-cons}
use borrow.Author.Gap.{read_sfits}
use Rattle.sc_spelling.specs.Reading.{◌>>=◌, number_at, text_at}
use Rattle.sc_spelling.proofs.NumberLemmas.{IsBytes, bind_some, kept_some, some_is, Takes, Takes-then, wide32, number_takes, number_again, text_takes, text_again}
use Rattle.sc_spelling.proofs.ValueLemmas.{both_of, of_both, unsigned32}
use Rattle.sc_frames.specs.Stored.{StoredSub, FitsSub}
use Rattle.sc_frames.specs.Entries.{after_name, spelling_of_sub}
use Rattle.sc_frames.specs.Reading.{byte_at, sub_at, subs_at}
use Rattle.sc_frames.proofs.PartLemmas.{byte_takes, int_le-from, int_le-true}

-- ---- a number with a sign

-- of a number with a sign that was read: its bytes are in front, and it fits them
pub signed_takes : (bytes : List ℕ) (x : ℕ × List ℕ) → IsBytes bytes → number_at w32 bytes ≡ Some x → Takes bytes (to_le_bytes w32 (cast_unsigned w32 (cast_signed w32 x.0))) x.1
signed_takes bytes x fits e =
    let t = number_takes w32 (2 ^ 32) wide32 bytes x.0 x.1 fits e in
    subst (λ (k : ℕ). Takes bytes (to_le_bytes w32 k) x.1) (sym (of_z-to_z w32 x.0 t.1)) t.0

-- ---- a slice

-- the slice has a range, a replica and a node
abbrev has_all : ℤ → ℤ → ℕ → ℕ → Bool
has_all min max replicas node = int_le min max && ltb 0 replicas && ltb 0 node

-- the slice of these numbers as they were read
abbrev sub_of : ℕ → List ℕ → ℕ → ℕ → ℕ → ℕ → StoredSub
sub_of id name min max replicas node = record { id = id; name = name; min = cast_signed w32 min; max = cast_signed w32 max; replicas = replicas; node = node }

-- that slice where it has all
abbrev kept_sub : ℕ → List ℕ → ℕ → ℕ → ℕ → ℕ × List ℕ → Option (StoredSub × List ℕ)
kept_sub id name min max replicas node =
    cond (has_all (cast_signed w32 min) (cast_signed w32 max) replicas node.0) (Some (sub_of id name min max replicas node.0, node.1)) None

-- of a slice that was read: its bytes are in front, and it fits
pub record IsSubRead (bytes : List ℕ) (sub : StoredSub) (rest : List ℕ) : Type 0 where
  pub takes : Takes bytes (spelling_of_sub sub) rest
  pub fits : FitsSub sub

pub sub_takes : (bytes : List ℕ) (x : StoredSub × List ℕ) → IsBytes bytes → sub_at bytes ≡ Some x → IsSubRead bytes x.0 x.1
unfolding sub_at after_name
sub_takes bytes x fits e =
    let a = bind_some (number_at w32 bytes) (λ id. text_at w32 id.1 >>= λ name. number_at w32 name.1 >>= λ min. number_at w32 min.1 >>= λ max.
    byte_at max.1 >>= λ replicas. number_at w32 replicas.1 >>= kept_sub id.0 name.0 min.0 max.0 replicas.0) x e in
    let b = bind_some (text_at w32 a.0.1) (λ name. number_at w32 name.1 >>= λ min. number_at w32 min.1 >>= λ max.
    byte_at max.1 >>= λ replicas. number_at w32 replicas.1 >>= kept_sub a.0.0 name.0 min.0 max.0 replicas.0) x a.2 in
    let c = bind_some (number_at w32 b.0.1) (λ min. number_at w32 min.1 >>= λ max.
    byte_at max.1 >>= λ replicas. number_at w32 replicas.1 >>= kept_sub a.0.0 b.0.0 min.0 max.0 replicas.0) x b.2 in
    let d = bind_some (number_at w32 c.0.1) (λ max.
    byte_at max.1 >>= λ replicas. number_at w32 replicas.1 >>= kept_sub a.0.0 b.0.0 c.0.0 max.0 replicas.0) x c.2 in
    let f = bind_some (byte_at d.0.1) (λ replicas. number_at w32 replicas.1 >>= kept_sub a.0.0 b.0.0 c.0.0 d.0.0 replicas.0) x d.2 in
    let g = bind_some (number_at w32 f.0.1) (kept_sub a.0.0 b.0.0 c.0.0 d.0.0 f.0.0) x f.2 in
    let min : ℤ = cast_signed w32 c.0.0 in
    let max : ℤ = cast_signed w32 d.0.0 in
    let made : StoredSub × List ℕ = (sub_of a.0.0 b.0.0 c.0.0 d.0.0 f.0.0 g.0.0, g.0.1) in
    let kept = kept_some (has_all min max f.0.0 g.0.0) (Some made) x g.2 in
    let first = both_of (int_le min max && ltb 0 f.0.0) (ltb 0 g.0.0) kept.0 in
    let others = both_of (int_le min max) (ltb 0 f.0.0) first.0 in
    let ta = number_takes w32 (2 ^ 32) wide32 bytes a.0.0 a.0.1 fits a.1 in
    let tb = text_takes w32 (2 ^ 32) wide32 a.0.1 b.0 ta.0.rest_fits b.1 in
    let tc = signed_takes b.0.1 c.0 tb.takes.rest_fits c.1 in
    let td = signed_takes c.0.1 d.0 tc.rest_fits d.1 in
    let tf = byte_takes d.0.1 f.0 td.rest_fits f.1 in
    let tg = number_takes w32 (2 ^ 32) wide32 f.0.1 g.0.0 g.0.1 tf.0.rest_fits g.1 in
    let s0 : List ℕ = to_le_bytes w32 g.0.0 in
    let s1 : List ℕ = f.0.0 ∷ s0 in
    let s2 : List ℕ = to_le_bytes w32 (cast_unsigned w32 max) ++ s1 in
    let s3 : List ℕ = to_le_bytes w32 (cast_unsigned w32 min) ++ s2 in
    let named : List ℕ = to_le_bytes w32 (length b.0.0) ++ b.0.0 in
    let u1 : Takes d.0.1 s1 g.0.1 = Takes-then d.0.1 (f.0.0 ∷ []) f.0.1 s0 g.0.1 tf.0 tg.0 in
    let u2 : Takes c.0.1 s2 g.0.1 = Takes-then c.0.1 (to_le_bytes w32 (cast_unsigned w32 max)) d.0.1 s1 g.0.1 td u1 in
    let u3 : Takes b.0.1 s3 g.0.1 = Takes-then b.0.1 (to_le_bytes w32 (cast_unsigned w32 min)) c.0.1 s2 g.0.1 tc u2 in
    let u4 : Takes a.0.1 (named ++ s3) g.0.1 = Takes-then a.0.1 named b.0.1 s3 g.0.1 tb.takes u3 in
    let u5 = Takes-then bytes (to_le_bytes w32 a.0.0) a.0.1 (named ++ s3) g.0.1 ta.0 u4 in
    let regrouped : to_le_bytes w32 a.0.0 ++ (named ++ s3) ≡ spelling_of_sub made.0 =
    ap (λ (t : List ℕ). to_le_bytes w32 a.0.0 ++ t) (append_assoc (to_le_bytes w32 (length b.0.0)) b.0.0 s3) in
    subst (λ (y : StoredSub × List ℕ). IsSubRead bytes y.0 y.1) (some_is made x kept.1)
    (record {
      takes = subst (λ (t : List ℕ). Takes bytes t g.0.1) regrouped u5;
      fits = record {
        id = ta.1;
        short = tb.short;
        utf8 = tb.utf8;
        min = read_sfits w32 c.0.0;
        max = read_sfits w32 d.0.0;
        ordered = int_le-true min max others.0;
        replicated = ltb-true _ _ others.1;
        replicas = tf.1;
        placed = ltb-true _ _ first.1;
        node = tg.1;
      };
    })

pub sub_again : (sub : StoredSub) (rest : List ℕ) → FitsSub sub → sub_at (spelling_of_sub sub ++ rest) ≡ Some (sub, rest)
unfolding sub_at after_name
sub_again sub rest fits =
    let s0 : List ℕ = to_le_bytes w32 sub.node in
    let s1 : List ℕ = sub.replicas ∷ s0 in
    let s2 : List ℕ = to_le_bytes w32 (cast_unsigned w32 sub.max) ++ s1 in
    let s3 : List ℕ = to_le_bytes w32 (cast_unsigned w32 sub.min) ++ s2 in
    let r1 : List ℕ = sub.replicas ∷ (s0 ++ rest) in
    let r2 : List ℕ = to_le_bytes w32 (cast_unsigned w32 sub.max) ++ r1 in
    let r3 : List ℕ = to_le_bytes w32 (cast_unsigned w32 sub.min) ++ r2 in
    let e2 : s2 ++ rest ≡ r2 = append_assoc (to_le_bytes w32 (cast_unsigned w32 sub.max)) s1 rest in
    let e3 : s3 ++ rest ≡ r3 = append_assoc (to_le_bytes w32 (cast_unsigned w32 sub.min)) s2 rest ∙ ap (λ (t : List ℕ). to_le_bytes w32 (cast_unsigned w32 sub.min) ++ t) e2 in
    let e4 : (sub.name ++ s3) ++ rest ≡ sub.name ++ r3 = append_assoc sub.name s3 rest ∙ ap (λ (t : List ℕ). sub.name ++ t) e3 in
    let r5 : List ℕ = to_le_bytes w32 (length sub.name) ++ (sub.name ++ r3) in
    let e5 : (to_le_bytes w32 (length sub.name) ++ (sub.name ++ s3)) ++ rest ≡ r5 =
    append_assoc (to_le_bytes w32 (length sub.name)) (sub.name ++ s3) rest ∙ ap (λ (t : List ℕ). to_le_bytes w32 (length sub.name) ++ t) e4 in
    let e6 : spelling_of_sub sub ++ rest ≡ to_le_bytes w32 sub.id ++ r5 =
    append_assoc (to_le_bytes w32 sub.id) (to_le_bytes w32 (length sub.name) ++ (sub.name ++ s3)) rest ∙ ap (λ (t : List ℕ). to_le_bytes w32 sub.id ++ t) e5 in
    let all : has_all sub.min sub.max sub.replicas sub.node ≡ true =
    of_both (int_le sub.min sub.max && ltb 0 sub.replicas) (ltb 0 sub.node)
    (of_both (int_le sub.min sub.max) (ltb 0 sub.replicas) (int_le-from sub.min sub.max fits.ordered) (lt-ltb _ _ fits.replicated))
    (lt-ltb _ _ fits.placed) in
    ap sub_at e6
    ∙ rw (
      number_again w32 (2 ^ 32) wide32 sub.id r5 fits.id,
      text_again w32 (2 ^ 32) wide32 sub.name r3 fits.short fits.utf8,
      number_again w32 (2 ^ 32) wide32 (cast_unsigned w32 sub.min) r2 (unsigned32 sub.min fits.min),
      number_again w32 (2 ^ 32) wide32 (cast_unsigned w32 sub.max) r1 (unsigned32 sub.max fits.max),
      number_again w32 (2 ^ 32) wide32 sub.node rest fits.node,
      to_z-of_z w32 sub.min fits.min,
      to_z-of_z w32 sub.max fits.max,
      all,
    ) refl

-- ---- several slices

-- of slices that were read: their bytes are in front, they are so many, and each fits
pub record AreSubsRead (n : ℕ) (bytes : List ℕ) (subs : List StoredSub) (rest : List ℕ) : Type 0 where
  pub takes : Takes bytes (flat_map spelling_of_sub subs) rest
  pub many : length subs ≡ n
  pub fits : AllByRecursion FitsSub subs

pub subs_take : (n : ℕ) (bytes : List ℕ) (x : List StoredSub × List ℕ) → IsBytes bytes → subs_at n bytes ≡ Some x → AreSubsRead n bytes x.0 x.1
unfolding subs_at
subs_take zero bytes x fits e =
    subst (λ (y : List StoredSub × List ℕ). AreSubsRead 0 bytes y.0 y.1) (some_is ([], bytes) x e)
    (record { takes = record { parts = refl; rest_fits = fits }; many = refl; fits = tt })
subs_take (suc n) bytes x fits e =
    let a = bind_some (sub_at bytes) (λ first. subs_at n first.1 >>= λ others. Some (first.0 ∷ others.0, others.1)) x e in
    let b = bind_some (subs_at n a.0.1) (λ others. Some (a.0.0 ∷ others.0, others.1)) x a.2 in
    let first = sub_takes bytes a.0 fits a.1 in
    let others = subs_take n a.0.1 b.0 first.takes.rest_fits b.1 in
    let both = Takes-then bytes (spelling_of_sub a.0.0) a.0.1 (flat_map spelling_of_sub b.0.0) b.0.1 first.takes others.takes in
    subst (λ (y : List StoredSub × List ℕ). AreSubsRead (suc n) bytes y.0 y.1) (some_is (a.0.0 ∷ b.0.0, b.0.1) x b.2)
    (record { takes = rw flat_map-cons both; many = ap suc others.many; fits = (first.fits, others.fits) })

pub subs_again : (subs : List StoredSub) (rest : List ℕ) → AllByRecursion FitsSub subs → subs_at (length subs) (flat_map spelling_of_sub subs ++ rest) ≡ Some (subs, rest)
unfolding subs_at
subs_again [] rest fits = refl
subs_again (sub ∷ subs) rest fits =
    let regrouped : flat_map spelling_of_sub (sub ∷ subs) ++ rest ≡ spelling_of_sub sub ++ (flat_map spelling_of_sub subs ++ rest) =
    ap (λ (x : List ℕ). x ++ rest) (flat_map-cons spelling_of_sub sub subs) ∙ append_assoc (spelling_of_sub sub) (flat_map spelling_of_sub subs) rest in
    ap (subs_at (suc (length subs))) regrouped
    ∙ rw (sub_again sub (flat_map spelling_of_sub subs ++ rest) fits.0, subs_again subs rest fits.1) refl

-- ---- a slice after another, as a loop goes over them

-- what was read with one before it
abbrev one_more : StoredSub → Option (List StoredSub × List ℕ) → Option (List StoredSub × List ℕ)
one_more first others = others >>= λ others. Some (first ∷ others.0, others.1)

-- what was read with those before it
abbrev pub with_first : List StoredSub → Option (List StoredSub × List ℕ) → Option (List StoredSub × List ℕ)
with_first firsts others = others >>= λ others. Some (firsts ++ others.0, others.1)

with_first-more : (firsts : List StoredSub) (first : StoredSub) (others : Option (List StoredSub × List ℕ)) → with_first firsts (one_more first others) ≡ with_first (firsts ++ first ∷ []) others
with_first-more firsts first None = refl
with_first-more firsts first (Some x) = ap (λ (l : List StoredSub). Some (l, x.1)) (sym (append_assoc firsts (first ∷ []) x.0))

subs_open : (n : ℕ) (bytes : List ℕ) (x : StoredSub × List ℕ) → sub_at bytes ≡ Some x → subs_at (suc n) bytes ≡ one_more x.0 (subs_at n x.1)
unfolding subs_at
subs_open n bytes x h = rw h refl

subs_shut : (n : ℕ) (bytes : List ℕ) → sub_at bytes ≡ None → subs_at (suc n) bytes ≡ None
unfolding subs_at
subs_shut n bytes h = rw h refl

pub subs_on : (count i : ℕ) (bytes : List ℕ) (firsts : List StoredSub) (x : StoredSub × List ℕ) (total : Option (List StoredSub × List ℕ)) → i < count → sub_at bytes ≡ Some x
    → with_first firsts (subs_at (count - i) bytes) ≡ total → with_first (firsts ++ x.0 ∷ []) (subs_at (count - (i + 1)) x.1) ≡ total
subs_on count i bytes firsts x total lt h so_far =
    let k : count - i ≡ suc (count - (i + 1)) = omega arith in
    let one = ap (λ (n : ℕ). with_first firsts (subs_at n bytes)) k ∙ ap (with_first firsts) (subs_open (count - (i + 1)) bytes x h)
    ∙ with_first-more firsts x.0 (subs_at (count - (i + 1)) x.1) in
    sym one ∙ so_far

pub subs_off : (count i : ℕ) (bytes : List ℕ) (firsts : List StoredSub) (total : Option (List StoredSub × List ℕ)) → i < count → sub_at bytes ≡ None
    → with_first firsts (subs_at (count - i) bytes) ≡ total → total ≡ None
subs_off count i bytes firsts total lt h so_far =
    let k : count - i ≡ suc (count - (i + 1)) = omega arith in
    sym so_far ∙ ap (λ (n : ℕ). with_first firsts (subs_at n bytes)) k ∙ ap (with_first firsts) (subs_shut (count - (i + 1)) bytes h)

pub subs_done : (count i : ℕ) (bytes : List ℕ) (firsts : List StoredSub) (total : Option (List StoredSub × List ℕ)) → count ≤ i
    → with_first firsts (subs_at (count - i) bytes) ≡ total → total ≡ Some (firsts, bytes)
unfolding subs_at
subs_done count i bytes firsts total le so_far =
    let k : count - i ≡ 0 = omega arith in
    sym so_far ∙ ap (λ (n : ℕ). with_first firsts (subs_at n bytes)) k ∙ ap (λ (l : List StoredSub). Some (l, bytes)) (append-nil firsts)

-- ---- with no slices before them
pub with_none : (others : Option (List StoredSub × List ℕ)) → with_first [] others ≡ others
with_none None = refl
with_none (Some x) = refl

-- ---- a slice, as it is made of what was read

-- a slice of these values is read where its numbers and its name are, and it has all
pub sub_found : (bytes r1 r2 r3 r4 r5 r6 text name : List ℕ) (id min max replicas node : ℕ) (low high : ℤ)
    → number_at w32 bytes ≡ Some (id, r1) → text_at w32 r1 ≡ Some (text, r2) → number_at w32 r2 ≡ Some (min, r3)
    → number_at w32 r3 ≡ Some (max, r4) → byte_at r4 ≡ Some (replicas, r5) → number_at w32 r5 ≡ Some (node, r6)
    → name ≡ text → low ≡ cast_signed w32 min → high ≡ cast_signed w32 max → low ≤ℤ high → 0 < replicas → 0 < node
    → sub_at bytes ≡ Some (record { id = id; name = name; min = low; max = high; replicas = replicas; node = node }, r6)
unfolding sub_at
sub_found bytes r1 r2 r3 r4 r5 r6 text name id min max replicas node low high e1 e2 e3 e4 e5 e6 same least greatest ordered some placed =
    let in_order : int_le (cast_signed w32 min) (cast_signed w32 max) ≡ true = rw (← least, ← greatest) (int_le-from low high ordered) in
    let all : has_all (cast_signed w32 min) (cast_signed w32 max) replicas node ≡ true =
    of_both (int_le (cast_signed w32 min) (cast_signed w32 max) && ltb 0 replicas) (ltb 0 node)
    (of_both (int_le (cast_signed w32 min) (cast_signed w32 max)) (ltb 0 replicas) in_order (lt-ltb _ _ some))
    (lt-ltb _ _ placed) in
    rw (e1, e2, e3, e4, e5, e6, all, same, least, greatest) refl
