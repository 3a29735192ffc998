-- An entry that is read is spelled so, and what is spelled so is read again, whatever follows it.
use Rattle.std.proofs.Common.{◌≡◌, ℕ, ◌^◌, ◌<◌, ◌⊎◌, Bool, true, false, cond, eqb, ltb, List, [], ◌∷◌, ◌++◌, length, Option, Some, None, refl, sym, ap, subst, ◌∙◌, append_assoc, arith, inl, inr}
use Rattle.std.specs.Int.{w32, w64, to_le_bytes}
use Rattle.std.specs.List.{flat_map}
use Rattle.std.proofs.lemmas.Bool.{eqb-true, ltb-true, lt-ltb}
use Rattle.std.proofs.lemmas.List.{length-append}
use Rattle.sc_spelling.specs.Reading.{◌>>=◌, number_at}
use Rattle.sc_spelling.proofs.NumberLemmas.{IsBytes, bind_some, kept_some, some_is, Takes, Takes-then, wide32, wide64, number_takes, number_again}
use Rattle.sc_frames.specs.Stored.{Stored, StoredSub, FitsEntry, FitsCore, write, settled, committed, begun, switched, failed, dropped, down, up, led}
use Rattle.sc_frames.specs.Entries.{spelling_of_core, spelling_of_entry, spelling_of_split, spelling_of_sub}
use Rattle.sc_frames.specs.Reading.{byte_at, place_at, seat_at, write_at, split_at, subs_at, slice_at, core_at, of_kind, entry_at}
use Rattle.sc_frames.proofs.PartLemmas.{byte_takes}
use Rattle.sc_frames.proofs.WriteLemmas.{IsRestRead, write_takes, write_again, deletion_again}
use Rattle.sc_frames.proofs.SubLemmas.{subs_take, subs_again}

-- ---- what stands after the byte of a kind

place_takes : (bytes : List ℕ) (x : Stored × List ℕ) → IsBytes bytes → place_at bytes ≡ Some x → IsRestRead 3 bytes x.0 x.1
place_takes bytes x fits e =
    let a = bind_some (number_at w64 bytes) (λ place. Some (settled place.0, place.1)) x e in
    let t = number_takes w64 (2 ^ 64) wide64 bytes a.0.0 a.0.1 fits a.1 in
    let made : Stored × List ℕ = (settled a.0.0, a.0.1) in
    subst (λ (y : Stored × List ℕ). IsRestRead 3 bytes y.0 y.1) (some_is made x a.2)
    (record { text = to_le_bytes w64 a.0.0; spelled = refl; takes = t.0; fits = t.1 })

-- nothing stands after the kind of a commit
abbrev nothing_more : List ℕ → Option (Stored × List ℕ)
nothing_more bytes = Some (committed, bytes)

committed_takes : (bytes : List ℕ) (x : Stored × List ℕ) → IsBytes bytes → nothing_more bytes ≡ Some x → IsRestRead 4 bytes x.0 x.1
committed_takes bytes x fits e =
    let made : Stored × List ℕ = (committed, bytes) in
    subst (λ (y : Stored × List ℕ). IsRestRead 4 bytes y.0 y.1) (some_is made x e)
    (record { text = []; spelled = refl; takes = record { parts = refl; rest_fits = fits }; fits = tt })

slice_takes : (kind : ℕ) (made : ℕ → Stored) → ((slice : ℕ) → spelling_of_entry (made slice) ≡ kind ∷ to_le_bytes w32 slice) → ((slice : ℕ) → slice < 2 ^ 32 → FitsEntry (made slice))
    → (bytes : List ℕ) (x : Stored × List ℕ) → IsBytes bytes → slice_at made bytes ≡ Some x → IsRestRead kind bytes x.0 x.1
slice_takes kind made spelled fit bytes x fits e =
    let a = bind_some (number_at w32 bytes) (λ slice. Some (made slice.0, slice.1)) x e in
    let t = number_takes w32 (2 ^ 32) wide32 bytes a.0.0 a.0.1 fits a.1 in
    let whole : Stored × List ℕ = (made a.0.0, a.0.1) in
    subst (λ (y : Stored × List ℕ). IsRestRead kind bytes y.0 y.1) (some_is whole x a.2)
    (record { text = to_le_bytes w32 a.0.0; spelled = spelled a.0.0; takes = t.0; fits = fit a.0.0 t.1 })

seat_takes : (bytes : List ℕ) (x : (ℕ × ℕ) × List ℕ) → IsBytes bytes → seat_at bytes ≡ Some x → Takes bytes (spelling_of_core x.0.0 x.0.1) x.1 × FitsCore x.0.0 x.0.1
unfolding seat_at
seat_takes bytes x fits e =
    let a = bind_some (number_at w32 bytes) (λ slice. byte_at slice.1 >>= λ replica. cond (ltb 0 replica.0) (Some ((slice.0, replica.0), replica.1)) None) x e in
    let b = bind_some (byte_at a.0.1) (λ replica. cond (ltb 0 replica.0) (Some ((a.0.0, replica.0), replica.1)) None) x a.2 in
    let whole : (ℕ × ℕ) × List ℕ = ((a.0.0, b.0.0), b.0.1) in
    let kept = kept_some (ltb 0 b.0.0) (Some whole) x b.2 in
    let t0 = number_takes w32 (2 ^ 32) wide32 bytes a.0.0 a.0.1 fits a.1 in
    let t1 = byte_takes a.0.1 b.0 t0.0.rest_fits b.1 in
    subst (λ (y : (ℕ × ℕ) × List ℕ). Takes bytes (spelling_of_core y.0.0 y.0.1) y.1 × FitsCore y.0.0 y.0.1) (some_is whole x kept.1)
    (Takes-then bytes (to_le_bytes w32 a.0.0) a.0.1 (b.0.0 ∷ []) b.0.1 t0.0 t1.0, record { small = t0.1; counted = ltb-true _ _ kept.0; short = t1.1 })

core_takes : (kind : ℕ) (made : ℕ → ℕ → Stored) → ((slice replica : ℕ) → spelling_of_entry (made slice replica) ≡ kind ∷ spelling_of_core slice replica)
    → ((slice replica : ℕ) → FitsCore slice replica → FitsEntry (made slice replica))
    → (bytes : List ℕ) (x : Stored × List ℕ) → IsBytes bytes → core_at made bytes ≡ Some x → IsRestRead kind bytes x.0 x.1
core_takes kind made spelled fit bytes x fits e =
    let a = bind_some (seat_at bytes) (λ seat. Some (made seat.0.0 seat.0.1, seat.1)) x e in
    let t = seat_takes bytes a.0 fits a.1 in
    let whole : Stored × List ℕ = (made a.0.0.0 a.0.0.1, a.0.1) in
    subst (λ (y : Stored × List ℕ). IsRestRead kind bytes y.0 y.1) (some_is whole x a.2)
    (record { text = spelling_of_core a.0.0.0 a.0.0.1; spelled = spelled a.0.0.0 a.0.0.1; takes = t.0; fits = fit a.0.0.0 a.0.0.1 t.1 })

split_takes : (bytes : List ℕ) (x : Stored × List ℕ) → IsBytes bytes → split_at bytes ≡ Some x → IsRestRead 5 bytes x.0 x.1
unfolding split_at
split_takes bytes x fits e =
    let a = bind_some (number_at w32 bytes) (λ parent. number_at w32 parent.1 >>= λ count. subs_at count.0 count.1 >>= λ subs. Some (begun parent.0 subs.0, subs.1)) x e in
    let b = bind_some (number_at w32 a.0.1) (λ count. subs_at count.0 count.1 >>= λ subs. Some (begun a.0.0 subs.0, subs.1)) x a.2 in
    let c = bind_some (subs_at b.0.0 b.0.1) (λ subs. Some (begun a.0.0 subs.0, subs.1)) x b.2 in
    let ta = number_takes w32 (2 ^ 32) wide32 bytes a.0.0 a.0.1 fits a.1 in
    let tb = number_takes w32 (2 ^ 32) wide32 a.0.1 b.0.0 b.0.1 ta.0.rest_fits b.1 in
    let tc = subs_take b.0.0 b.0.1 c.0 tb.0.rest_fits c.1 in
    let subs : List StoredSub = c.0.0 in
    let spelled : List ℕ = flat_map spelling_of_sub subs in
    let e1 = Takes-then a.0.1 (to_le_bytes w32 b.0.0) b.0.1 spelled c.0.1 tb.0 tc.takes in
    let e0 = Takes-then bytes (to_le_bytes w32 a.0.0) a.0.1 (to_le_bytes w32 b.0.0 ++ spelled) c.0.1 ta.0 e1 in
    let made : Stored × List ℕ = (begun a.0.0 subs, c.0.1) in
    subst (λ (y : Stored × List ℕ). IsRestRead 5 bytes y.0 y.1) (some_is made x c.2)
    (record {
      text = spelling_of_split a.0.0 subs;
      spelled = refl;
      takes = subst (λ (k : ℕ). Takes bytes (to_le_bytes w32 a.0.0 ++ (to_le_bytes w32 k ++ spelled)) c.0.1) (sym tc.many) e0;
      fits = (ta.1, subst (λ (k : ℕ). k < 2 ^ 32) (sym tc.many) tb.1, tc.fits);
    })

-- ---- an entry

-- what a choice gave
chosen : {A : Type 0} (b : Bool) (o p : Option A) (y : A) → cond b o p ≡ Some y → ((b ≡ true) × (o ≡ Some y)) ⊎ (p ≡ Some y)
chosen true o p y e = inl (refl, e)
chosen false o p y e = inr e

-- the rest of an entry of this kind, where the byte is that of the kind
of_this : (kind this : ℕ) (bytes : List ℕ) (x : Stored × List ℕ) → eqb kind this ≡ true → IsRestRead this bytes x.0 x.1 → IsRestRead kind bytes x.0 x.1
of_this kind this bytes x same read = subst (λ (k : ℕ). IsRestRead k bytes x.0 x.1) (sym (eqb-true kind this same)) read

of_core_takes : (kind : ℕ) (bytes : List ℕ) (x : Stored × List ℕ) → IsBytes bytes
    → cond (eqb kind 9) (core_at down bytes) (cond (eqb kind 10) (core_at up bytes) (cond (eqb kind 11) (core_at led bytes) None)) ≡ Some x → IsRestRead kind bytes x.0 x.1
of_core_takes kind bytes x fits e9 =
    elim (chosen (eqb kind 9) (core_at down bytes) (cond (eqb kind 10) (core_at up bytes) (cond (eqb kind 11) (core_at led bytes) None)) x e9) [
      | inl h ↦ of_this kind 9 bytes x h.0 (core_takes 9 down (λ s r. refl) (λ s r f. f) bytes x fits h.1)
      | inr e10 ↦ elim (chosen (eqb kind 10) (core_at up bytes) (cond (eqb kind 11) (core_at led bytes) None) x e10) [
        | inl h ↦ of_this kind 10 bytes x h.0 (core_takes 10 up (λ s r. refl) (λ s r f. f) bytes x fits h.1)
        | inr e11 ↦
            let h = kept_some (eqb kind 11) (core_at led bytes) x e11 in
            of_this kind 11 bytes x h.0 (core_takes 11 led (λ s r. refl) (λ s r f. f) bytes x fits h.1)
      ]
    ]

of_slice_takes : (kind : ℕ) (bytes : List ℕ) (x : Stored × List ℕ) (others : Option (Stored × List ℕ)) → IsBytes bytes → (others ≡ Some x → IsRestRead kind bytes x.0 x.1)
    → cond (eqb kind 6) (slice_at switched bytes) (cond (eqb kind 7) (slice_at failed bytes) (cond (eqb kind 8) (slice_at dropped bytes) others)) ≡ Some x → IsRestRead kind bytes x.0 x.1
of_slice_takes kind bytes x others fits rest e6 =
    elim (chosen (eqb kind 6) (slice_at switched bytes) (cond (eqb kind 7) (slice_at failed bytes) (cond (eqb kind 8) (slice_at dropped bytes) others)) x e6) [
      | inl h ↦ of_this kind 6 bytes x h.0 (slice_takes 6 switched (λ s. refl) (λ s f. f) bytes x fits h.1)
      | inr e7 ↦ elim (chosen (eqb kind 7) (slice_at failed bytes) (cond (eqb kind 8) (slice_at dropped bytes) others) x e7) [
        | inl h ↦ of_this kind 7 bytes x h.0 (slice_takes 7 failed (λ s. refl) (λ s f. f) bytes x fits h.1)
        | inr e8 ↦ elim (chosen (eqb kind 8) (slice_at dropped bytes) others x e8) [
          | inl h ↦ of_this kind 8 bytes x h.0 (slice_takes 8 dropped (λ s. refl) (λ s f. f) bytes x fits h.1)
          | inr e ↦ rest e
        ]
      ]
    ]

-- the kinds from 6 on
abbrev from_6 : ℕ → List ℕ → Option (Stored × List ℕ)
from_6 kind bytes =
    cond (eqb kind 6) (slice_at switched bytes) (cond (eqb kind 7) (slice_at failed bytes) (cond (eqb kind 8) (slice_at dropped bytes)
    (cond (eqb kind 9) (core_at down bytes) (cond (eqb kind 10) (core_at up bytes) (cond (eqb kind 11) (core_at led bytes) None)))))

-- those from 3 on
abbrev from_3 : ℕ → List ℕ → Option (Stored × List ℕ)
from_3 kind bytes =
    cond (eqb kind 3) (place_at bytes) (cond (eqb kind 4) (nothing_more bytes) (cond (eqb kind 5) (split_at bytes) (from_6 kind bytes)))

from_3_takes : (kind : ℕ) (bytes : List ℕ) (x : Stored × List ℕ) → IsBytes bytes → from_3 kind bytes ≡ Some x → IsRestRead kind bytes x.0 x.1
from_3_takes kind bytes x fits e3 =
    elim (chosen (eqb kind 3) (place_at bytes) (cond (eqb kind 4) (nothing_more bytes) (cond (eqb kind 5) (split_at bytes) (from_6 kind bytes))) x e3) [
      | inl h ↦ of_this kind 3 bytes x h.0 (place_takes bytes x fits h.1)
      | inr e4 ↦ elim (chosen (eqb kind 4) (nothing_more bytes) (cond (eqb kind 5) (split_at bytes) (from_6 kind bytes)) x e4) [
        | inl h ↦ of_this kind 4 bytes x h.0 (committed_takes bytes x fits h.1)
        | inr e5 ↦ elim (chosen (eqb kind 5) (split_at bytes) (from_6 kind bytes) x e5) [
          | inl h ↦ of_this kind 5 bytes x h.0 (split_takes bytes x fits h.1)
          | inr e6 ↦ of_slice_takes kind bytes x
              (cond (eqb kind 9) (core_at down bytes) (cond (eqb kind 10) (core_at up bytes) (cond (eqb kind 11) (core_at led bytes) None)))
              fits (of_core_takes kind bytes x fits) e6
        ]
      ]
    ]

of_kind_takes : (kind : ℕ) (bytes : List ℕ) (x : Stored × List ℕ) → IsBytes bytes → of_kind kind bytes ≡ Some x → IsRestRead kind bytes x.0 x.1
of_kind_takes kind bytes x fits e1 =
    elim (chosen (eqb kind 1) (write_at true bytes) (cond (eqb kind 2) (write_at false bytes) (from_3 kind bytes)) x e1) [
      | inl h ↦ of_this kind 1 bytes x h.0 (write_takes true bytes x fits h.1)
      | inr e2 ↦ elim (chosen (eqb kind 2) (write_at false bytes) (from_3 kind bytes) x e2) [
        | inl h ↦ of_this kind 2 bytes x h.0 (write_takes false bytes x fits h.1)
        | inr e3 ↦ from_3_takes kind bytes x fits e3
      ]
    ]

-- of an entry that was read: its bytes are in front, it fits, and less is left
pub record IsEntryRead (bytes : List ℕ) (s : Stored) (rest : List ℕ) : Type 0 where
  pub takes : Takes bytes (spelling_of_entry s) rest
  pub fits : FitsEntry s
  pub shorter : length rest < length bytes

pub entry_takes : (bytes : List ℕ) (x : Stored × List ℕ) → IsBytes bytes → entry_at bytes ≡ Some x → IsEntryRead bytes x.0 x.1
unfolding entry_at
entry_takes bytes x fits e =
    let a = bind_some (byte_at bytes) (λ kind. of_kind kind.0 kind.1) x e in
    let t = byte_takes bytes a.0 fits a.1 in
    let r = of_kind_takes a.0.0 a.0.1 x t.0.rest_fits a.2 in
    let both = Takes-then bytes (a.0.0 ∷ []) a.0.1 r.text x.1 t.0 r.takes in
    let long = ap length both.parts ∙ length-append (a.0.0 ∷ r.text) x.1 in
    record {
      takes = subst (λ (t : List ℕ). Takes bytes t x.1) (sym r.spelled) both;
      fits = r.fits;
      shorter = omega (arith, long);
    }

slice_again : (made : ℕ → Stored) (slice : ℕ) (rest : List ℕ) → slice < 2 ^ 32 → slice_at made (to_le_bytes w32 slice ++ rest) ≡ Some (made slice, rest)
slice_again made slice rest fits = rw (number_again w32 (2 ^ 32) wide32 slice rest fits) refl

seat_again : (slice replica : ℕ) (rest : List ℕ) → FitsCore slice replica → seat_at (spelling_of_core slice replica ++ rest) ≡ Some ((slice, replica), rest)
unfolding seat_at
seat_again slice replica rest fits =
    ap seat_at (append_assoc (to_le_bytes w32 slice) (replica ∷ []) rest)
    ∙ rw (number_again w32 (2 ^ 32) wide32 slice (replica ∷ rest) fits.small, lt-ltb 0 replica fits.counted) refl

core_again : (made : ℕ → ℕ → Stored) (slice replica : ℕ) (rest : List ℕ) → FitsCore slice replica → core_at made (spelling_of_core slice replica ++ rest) ≡ Some (made slice replica, rest)
core_again made slice replica rest fits = rw (seat_again slice replica rest fits) refl

split_again : (parent : ℕ) (subs : List StoredSub) (rest : List ℕ) → FitsEntry (begun parent subs) → split_at (spelling_of_split parent subs ++ rest) ≡ Some (begun parent subs, rest)
unfolding split_at
split_again parent subs rest fits =
    let spelled : List ℕ = flat_map spelling_of_sub subs in
    let regrouped : spelling_of_split parent subs ++ rest ≡ to_le_bytes w32 parent ++ (to_le_bytes w32 (length subs) ++ (spelled ++ rest)) =
    append_assoc (to_le_bytes w32 parent) (to_le_bytes w32 (length subs) ++ spelled) rest
    ∙ ap (λ (t : List ℕ). to_le_bytes w32 parent ++ t) (append_assoc (to_le_bytes w32 (length subs)) spelled rest) in
    ap split_at regrouped
    ∙ rw (
      number_again w32 (2 ^ 32) wide32 parent (to_le_bytes w32 (length subs) ++ (spelled ++ rest)) fits.0,
      number_again w32 (2 ^ 32) wide32 (length subs) (spelled ++ rest) fits.1,
      subs_again subs rest fits.2,
    ) refl

pub entry_again : (s : Stored) (rest : List ℕ) → FitsEntry s → entry_at (spelling_of_entry s ++ rest) ≡ Some (s, rest)
unfolding entry_at
entry_again (write id version (Some fields)) rest fits = write_again id version fields rest fits
entry_again (write id version None) rest fits = deletion_again id version rest fits
entry_again (settled place) rest fits = rw (number_again w64 (2 ^ 64) wide64 place rest fits) refl
entry_again committed rest fits = refl
entry_again (begun parent subs) rest fits = split_again parent subs rest fits
entry_again (switched parent) rest fits = slice_again switched parent rest fits
entry_again (failed parent) rest fits = slice_again failed parent rest fits
entry_again (dropped slice) rest fits = slice_again dropped slice rest fits
entry_again (down slice replica) rest fits = core_again down slice replica rest fits
entry_again (up slice replica) rest fits = core_again up slice replica rest fits
entry_again (led slice replica) rest fits = core_again led slice replica rest fits

-- an entry has a byte at least
pub entry_some : (s : Stored) → 0 < length (spelling_of_entry s)
entry_some (write id version (Some fields)) = omega arith
entry_some (write id version None) = omega arith
entry_some (settled place) = omega arith
entry_some committed = omega arith
entry_some (begun parent subs) = omega arith
entry_some (switched parent) = omega arith
entry_some (failed parent) = omega arith
entry_some (dropped slice) = omega arith
entry_some (down slice replica) = omega arith
entry_some (up slice replica) = omega arith
entry_some (led slice replica) = omega arith
