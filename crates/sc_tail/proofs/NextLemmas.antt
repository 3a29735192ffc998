-- What the reading of a head and of a body says of where reading is.
use Rattle.std.proofs.Common.{◌≡◌, ◌≢◌, ℕ, ◌+◌, ◌-◌, ◌^◌, ◌<◌, ◌≤◌, List, [], ◌∷◌, ◌++◌, length, map, get_or, take, drop, Option, IfSome, sym, ◌∙◌, ap, subst, arith}
use Rattle.std.proofs.lemmas.Option.{IfSome_then}
use Rattle.std.specs.Int.{w64, to_le_bytes, from_le_bytes}
use Rattle.std.specs.List.{AllByRecursion}
use Rattle.sc_files.specs.States.{FileState, Stays}
use Rattle.sc_tail.specs.Frames.{frames, opened}
use Rattle.sc_tail.specs.Files.{Fits, HasRead, GoesOn}
use Rattle.sc_tail.specs.Tails.{read_bodies, IsReading}
use Rattle.sc_tail.specs.declared.reading.Reading.{Reading}
use Rattle.sc_tail.proofs.FrameLemmas.{fits-push}
use Rattle.sc_tail.proofs.MomentLemmas.{still_sees, both_seen}
use Rattle.sc_tail.proofs.ReadLemmas.{begins, ends_short, ends_shut, ends_cut, goes_on}
use Rattle.sc_tail.proofs.TailLemmas.{noted, length-frames}

-- nothing was read yet
pub begins_seen : (seen : Option (List ℕ)) (items : List (List ℕ × Unit {0})) (size : ℕ) → items ≡ [] → IfSome seen (λ c. size ≡ length c) → IfSome seen (HasRead (map (λ one. one.0) items) 0 size)
begins_seen seen items size none told = subst (λ (l : List (List ℕ × Unit {0})). IfSome seen (HasRead (map (λ one. one.0) l) 0 size)) (sym none) (IfSome_then seen told (λ c is. begins size c is))

pub begins_reading : (mid file : FileState) (reading : Reading) → Stays mid file → reading.bodies.items ≡ [] → reading.at ≡ 0 → IfSome mid.seen (λ c. reading.len ≡ length c) → IsReading file reading
begins_reading mid file reading stays none at told =
    let no_bodies : read_bodies reading ≡ [] = ap (λ (l : List (List ℕ × Unit {0})). map (λ one. one.0) l) none in
    record {
      fits = subst (λ l. AllByRecursion Fits l) (sym no_bodies) tt;
      place = at ∙ sym (ap (λ l. length (frames l)) no_bodies);
      within = omega (arith, at);
      seen = still_sees mid file (HasRead (read_bodies reading) reading.at reading.len) stays
          (subst (λ n. IfSome mid.seen (HasRead (read_bodies reading) n reading.len)) (sym at) (begins_seen mid.seen reading.bodies.items reading.len none told));
    }

-- a call that changes nothing
pub still_reading : (a b : FileState) (reading : Reading) → Stays a b → IsReading a reading → IsReading b reading
still_reading a b reading stays r = record {
  fits = r.fits;
  place = r.place;
  within = r.within;
  seen = still_sees a b (HasRead (read_bodies reading) reading.at reading.len) stays r.seen;
}

module _ (bodies : List (List ℕ)) (place size : ℕ) (seen : Option (List ℕ)) (read : IfSome seen (HasRead bodies place size)) where
  -- where reading ends
  pub at_short : size - place < 10 → IfSome seen (λ c. opened c ≡ bodies)
  at_short short = IfSome_then seen read (λ c r. ends_short bodies place size c r short)

  pub at_end : (n : ℕ) → place + n ≤ size → IfSome seen (λ c. length c < place + n) → IfSome seen (λ c. opened c ≡ bodies)
  at_end n there short = both_seen seen (HasRead bodies place size) (λ c. length c < place + n) (λ c. opened c ≡ bodies) read short (λ c r less. absurd (omega (arith, there, less, r.len)))

  module _ (head : List ℕ) (nine : length head ≡ 9) (long : 10 ≤ size - place) (filled : IfSome seen (λ c. head ≡ take (length head) (drop place c))) where
    nine_of : (c : List ℕ) → head ≡ take (length head) (drop place c) → head ≡ take 9 (drop place c)
    nine_of c is = is ∙ ap (λ n. take n (drop place c)) nine

    pub at_shut : get_or head 0 0 ≢ 1 → IfSome seen (λ c. opened c ≡ bodies)
    at_shut shut = both_seen seen (HasRead bodies place size) (λ c. head ≡ take (length head) (drop place c)) (λ c. opened c ≡ bodies) read filled
        (λ c r is. ends_shut bodies place size c r head long (nine_of c is) shut)

    pub at_cut : size - place - 10 < from_le_bytes w64 (drop 1 head) → IfSome seen (λ c. opened c ≡ bodies)
    at_cut short = both_seen seen (HasRead bodies place size) (λ c. head ≡ take (length head) (drop place c)) (λ c. opened c ≡ bodies) read filled
        (λ c r is. ends_cut bodies place size c r head long (nine_of c is) short)

    -- and where it goes on
    pub at_open : (told : ℕ) → get_or head 0 0 ≡ 1 → told ≡ from_le_bytes w64 (drop 1 head) → told ≤ size - place - 10 → to_le_bytes w64 told ≡ drop 1 head → IfSome seen (GoesOn bodies place size told)
    at_open told is_open tells whole spells = both_seen seen (HasRead bodies place size) (λ c. head ≡ take (length head) (drop place c)) (GoesOn bodies place size told) read filled
        (λ c r is. goes_on bodies place size c r head long (nine_of c is) told is_open tells whole spells)

-- behind the frame
pub on_reading : (file new : FileState) (reading after : Reading) (body : List ℕ) (told : ℕ) → IsReading file reading → Stays file new → after.bodies.items ≡ reading.bodies.items ++ (body, tt) ∷ [] → after.at ≡ reading.at + (9 + told) → after.len ≡ reading.len
    → length body ≡ told → told < 2 ^ 64 → reading.at + (9 + told) ≤ reading.len → IfSome file.seen (GoesOn (read_bodies reading) reading.at reading.len told) → IfSome file.seen (λ c. body ≡ take told (drop (reading.at + 9) c)) → IsReading new after
on_reading file new reading after body told r stays items at len size fits room on is =
    let bodies = read_bodies reading in
    let same : read_bodies after ≡ bodies ++ body ∷ [] = ap (λ (l : List (List ℕ × Unit {0})). map (λ one. one.0) l) items ∙ noted reading.bodies.items body in
    let seen : IfSome file.seen (HasRead (bodies ++ body ∷ []) (reading.at + (9 + told)) reading.len) =
    both_seen file.seen (GoesOn bodies reading.at reading.len told) (λ c. body ≡ take told (drop (reading.at + 9) c)) (HasRead (bodies ++ body ∷ []) (reading.at + (9 + told)) reading.len) on is (λ c g b. g body size b) in
    record {
      fits = subst (λ l. AllByRecursion Fits l) (sym same) (fits-push bodies body r.fits (omega (arith, size, fits)));
      place = omega (arith, at, r.place, size, length-frames bodies body, ap (λ l. length (frames l)) same);
      within = omega (arith, at, len, room);
      seen = still_sees file new (HasRead (read_bodies after) after.at after.len) stays
          (subst (λ l. IfSome file.seen (HasRead l after.at after.len)) (sym same)
          (subst (λ n. IfSome file.seen (HasRead (bodies ++ body ∷ []) n after.len)) (sym at)
          (subst (λ n. IfSome file.seen (HasRead (bodies ++ body ∷ []) (reading.at + (9 + told)) n)) (sym len) seen)));
    }
