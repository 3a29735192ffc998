-- The first entry of a file that is read is spelled so, and what is spelled so is read again.
use Rattle.std.proofs.Common.{◌≡◌, ℕ, ◌^◌, cond, eqb, List, [], ◌∷◌, ◌++◌, length, Option, Some, None, refl, sym, ap, subst, ◌∙◌, arith}
use Rattle.std.specs.Prelude.{◌&&◌, IfSome}
use Rattle.std.specs.Int.{Width, w32, w64, from_le_bytes, to_le_bytes}
use Rattle.std.proofs.lemmas.Bool.{eqb-true}
use Rattle.std.proofs.lemmas.List.{append-nil}
use Rattle.sc_spelling.specs.Reading.{◌>>=◌, Gives, number_at}
use Rattle.sc_spelling.proofs.NumberLemmas.{IsBytes, bind_some, kept_some, some_is, Takes-then, wide32, wide64, number_takes}
use Rattle.sc_spelling.proofs.ValueLemmas.{both_of}
use Rattle.sc_frames.specs.Heads.{spelling_of_head, head_at}
use Rattle.sc_frames.specs.Reading.{byte_at}
use Rattle.sc_frames.specs.declared.head.Head.{Head}
use Rattle.sc_frames.proofs.PartLemmas.{byte_takes}

-- the first entry of these numbers
abbrev head_of : ℕ → ℕ → ℕ → ℕ → ℕ → ℕ → Head
head_of nodes shards replicas buckets log_limit bucket = record { nodes = nodes; shards = shards; replicas = replicas; buckets = buckets; log_limit = log_limit; bucket = bucket }

-- that entry, where the kind is 0 and nothing follows
abbrev kept_head : ℕ → ℕ → ℕ → ℕ → ℕ → ℕ → ℕ × List ℕ → Option Head
kept_head kind nodes shards replicas buckets log_limit bucket =
    cond (eqb kind 0 && eqb (length bucket.1) 0) (Some (head_of nodes shards replicas buckets log_limit bucket.0)) None

nothing_left : (rest : List ℕ) → length rest ≡ 0 → rest ≡ []
nothing_left [] none = refl
nothing_left (b ∷ rest) none = absurd (omega arith)

-- the numbers from that of the buckets on
abbrev from_buckets : ℕ → ℕ → ℕ → ℕ → List ℕ → Option Head
from_buckets kind nodes shards replicas bytes = number_at w32 bytes >>= λ buckets. number_at w64 buckets.1 >>= λ limit. number_at w32 limit.1 >>= kept_head kind nodes shards replicas buckets.0 limit.0

-- of these numbers: their bytes are all that is there, and the kind is 0
record IsEndRead (kind nodes shards replicas : ℕ) (bytes : List ℕ) (x : Head) : Type 0 where
  pub buckets : ℕ
  pub limit : ℕ
  pub bucket : ℕ
  pub is : head_of nodes shards replicas buckets limit bucket ≡ x
  pub first : kind ≡ 0
  pub spelt : bytes ≡ to_le_bytes w32 buckets ++ (to_le_bytes w64 limit ++ to_le_bytes w32 bucket)

end_takes : (kind nodes shards replicas : ℕ) (bytes : List ℕ) (x : Head) → IsBytes bytes → from_buckets kind nodes shards replicas bytes ≡ Some x → IsEndRead kind nodes shards replicas bytes x
end_takes kind nodes shards replicas bytes x fits e =
    let b = bind_some (number_at w32 bytes) (λ buckets. number_at w64 buckets.1 >>= λ limit. number_at w32 limit.1 >>= kept_head kind nodes shards replicas buckets.0 limit.0) x e in
    let l = bind_some (number_at w64 b.0.1) (λ limit. number_at w32 limit.1 >>= kept_head kind nodes shards replicas b.0.0 limit.0) x b.2 in
    let c = bind_some (number_at w32 l.0.1) (kept_head kind nodes shards replicas b.0.0 l.0.0) x l.2 in
    let made : Head = head_of nodes shards replicas b.0.0 l.0.0 c.0.0 in
    let kept = kept_some (eqb kind 0 && eqb (length c.0.1) 0) (Some made) x c.2 in
    let tests = both_of (eqb kind 0) (eqb (length c.0.1) 0) kept.0 in
    let tb = number_takes w32 (2 ^ 32) wide32 bytes b.0.0 b.0.1 fits b.1 in
    let tl = number_takes w64 (2 ^ 64) wide64 b.0.1 l.0.0 l.0.1 tb.0.rest_fits l.1 in
    let tc = number_takes w32 (2 ^ 32) wide32 l.0.1 c.0.0 c.0.1 tl.0.rest_fits c.1 in
    let s0 : List ℕ = to_le_bytes w32 c.0.0 in
    let s1 : List ℕ = to_le_bytes w64 l.0.0 ++ s0 in
    let u1 = Takes-then b.0.1 (to_le_bytes w64 l.0.0) l.0.1 s0 c.0.1 tl.0 tc.0 in
    let u2 = Takes-then bytes (to_le_bytes w32 b.0.0) b.0.1 s1 c.0.1 tb.0 u1 in
    let ended : bytes ≡ to_le_bytes w32 b.0.0 ++ s1 =
    u2.parts ∙ ap (λ (t : List ℕ). (to_le_bytes w32 b.0.0 ++ s1) ++ t) (nothing_left c.0.1 (eqb-true _ _ tests.1)) ∙ append-nil (to_le_bytes w32 b.0.0 ++ s1) in
    record { buckets = b.0.0; limit = l.0.0; bucket = c.0.0; is = some_is made x kept.1; first = eqb-true _ _ tests.0; spelt = ended }

head_takes : (bytes : List ℕ) (x : Head) → IsBytes bytes → head_at bytes ≡ Some x → bytes ≡ spelling_of_head x
unfolding head_at
head_takes bytes x fits e =
    let k = bind_some (byte_at bytes) (λ kind. number_at w32 kind.1 >>= λ nodes. number_at w32 nodes.1 >>= λ shards. byte_at shards.1 >>= λ replicas.
    from_buckets kind.0 nodes.0 shards.0 replicas.0 replicas.1) x e in
    let n = bind_some (number_at w32 k.0.1) (λ nodes. number_at w32 nodes.1 >>= λ shards. byte_at shards.1 >>= λ replicas. from_buckets k.0.0 nodes.0 shards.0 replicas.0 replicas.1) x k.2 in
    let s = bind_some (number_at w32 n.0.1) (λ shards. byte_at shards.1 >>= λ replicas. from_buckets k.0.0 n.0.0 shards.0 replicas.0 replicas.1) x n.2 in
    let r = bind_some (byte_at s.0.1) (λ replicas. from_buckets k.0.0 n.0.0 s.0.0 replicas.0 replicas.1) x s.2 in
    let tk = byte_takes bytes k.0 fits k.1 in
    let tn = number_takes w32 (2 ^ 32) wide32 k.0.1 n.0.0 n.0.1 tk.0.rest_fits n.1 in
    let ts = number_takes w32 (2 ^ 32) wide32 n.0.1 s.0.0 s.0.1 tn.0.rest_fits s.1 in
    let tr = byte_takes s.0.1 r.0 ts.0.rest_fits r.1 in
    let end = end_takes k.0.0 n.0.0 s.0.0 r.0.0 r.0.1 x tr.0.rest_fits r.2 in
    let e3 : s.0.1 ≡ r.0.0 ∷ (to_le_bytes w32 end.buckets ++ (to_le_bytes w64 end.limit ++ to_le_bytes w32 end.bucket)) =
    tr.0.parts ∙ ap (λ (t : List ℕ). r.0.0 ∷ t) end.spelt in
    let e2 = ts.0.parts ∙ ap (λ (t : List ℕ). to_le_bytes w32 s.0.0 ++ t) e3 in
    let e1 = tn.0.parts ∙ ap (λ (t : List ℕ). to_le_bytes w32 n.0.0 ++ t) e2 in
    let e0 = tk.0.parts ∙ ap (λ (t : List ℕ). k.0.0 ∷ t) e1 in
    let whole : bytes ≡ spelling_of_head (head_of n.0.0 s.0.0 r.0.0 end.buckets end.limit end.bucket) =
    e0 ∙ ap (λ (kind : ℕ). kind ∷ (to_le_bytes w32 n.0.0 ++ (to_le_bytes w32 s.0.0 ++ (r.0.0 ∷ (to_le_bytes w32 end.buckets ++ (to_le_bytes w64 end.limit ++ to_le_bytes w32 end.bucket)))))) end.first in
    subst (λ (y : Head). bytes ≡ spelling_of_head y) end.is whole

-- the number that the bytes of a number spell
abbrev back : Width → ℕ → ℕ
back w n = from_le_bytes w (to_le_bytes w n)

head_again : (head : Head)
    → head_at (spelling_of_head head) ≡ Some (head_of (back w32 head.nodes) (back w32 head.shards) head.replicas (back w32 head.buckets) (back w64 head.log_limit) (back w32 head.bucket))
unfolding head_at
head_again head = refl

-- what was found is spelled there
pub is_found : (bytes : List ℕ) (r : Option Head) → IsBytes bytes → Gives (λ head. head) r (head_at bytes) → IfSome r (λ head. bytes ≡ spelling_of_head head)
is_found bytes None fits given = tt
is_found bytes (Some x) fits given = head_takes bytes x fits given

-- where nothing was found nothing is spelled
pub is_none : (bytes : List ℕ) (r : Option Head) → Gives (λ head. head) r (head_at bytes) → r ≡ None → (head : Head) → bytes ≡ spelling_of_head head → ⊥
is_none bytes None given none head e = let again = sym given ∙ ap head_at e ∙ head_again head in absurd (cc)
is_none bytes (Some x) given none head e = absurd (cc)
