-- The first ids were read, each at its stop.
use Rattle.std.proofs.Common.{◌≡◌, ℕ, ◌+◌, ◌<◌, ◌≤◌, List, [], ◌∷◌, ◌++◌, length, refl, sym, ap, ◌∙◌, subst, arith, append_assoc, length-append}
use Rattle.std.specs.Prelude.{get_or, map, Option, Some, None, option_to_list, Ok, Err}
use Rattle.std.specs.Arc.{arc_value}
use Rattle.std.specs.Option.{option_map}
use Rattle.std.specs.declared.alloc.AllocError.{AllocError}
use Rattle.std.specs.declared.alloc.Global.{Global}
use Rattle.std.specs.declared.sync.Arc.{Arc}
use Rattle.std.proofs.lemmas.List.{append-nil, map-append}
use Rattle.sc_record.specs.Writes.{Write}
use Rattle.sc_seen.specs.Seen.{Layout, Seen, FromNowOn}
use Rattle.sc_seen.specs.Moments.{View, Keeps}
use Rattle.sc_seen.specs.declared.stop.Stop.{Stop}
use Rattle.sc_seen.proofs.GoesOnLemmas.{Keeps-none, Keeps-then, Keeps-sees}
use Rattle.sc_get.specs.Got.{IsGot, AreGot, ReadsAt, ReadsEach, live_at, live_writes}

-- so many of the ids were read, and these were found
pub record SoFar (layout : Layout) (old new : View) (ids : List (List ℕ)) (count : ℕ) (found : List (Arc Write Global)) : Type 0 where
  pub stops : List Stop
  pub keeps : Keeps layout old new stops
  pub reads : ReadsEach layout ids stops
  pub count_is : length stops ≡ count
  pub found_are : FromNowOn new.seen (λ later. map arc_value found ≡ live_writes later ids stops)

-- the id at the next stop
reads-push : (layout : Layout) (ids : List (List ℕ)) (stops : List Stop) (id : List ℕ) (stop : Stop)
    → ReadsEach layout ids stops → length stops < length ids → get_or ids (length stops) id ≡ id → ReadsAt layout id stop
    → ReadsEach layout ids (stops ++ stop ∷ [])
reads-push layout [] stops id stop reads some at one = absurd (omega arith)
reads-push layout (first ∷ ids) [] id stop reads some at one = (subst (λ (i : List ℕ). ReadsAt layout i stop) (sym at) one, tt)
reads-push layout (first ∷ ids) (s ∷ stops) id stop reads some at one =
    (reads.0, reads-push layout ids stops id stop reads.1 (omega arith) at one)

-- its live write comes last
live-push : (seen : Seen) (ids : List (List ℕ)) (stops : List Stop) (id : List ℕ) (stop : Stop)
    → length stops < length ids → get_or ids (length stops) id ≡ id
    → live_writes seen ids (stops ++ stop ∷ []) ≡ live_writes seen ids stops ++ option_to_list (live_at seen id stop)
live-push seen [] stops id stop some at = absurd (omega arith)
live-push seen (first ∷ ids) [] id stop some at =
    none_after ids ∙ ap (λ (i : List ℕ). option_to_list (live_at seen i stop)) at where
      none_after : (ids : List (List ℕ)) → option_to_list (live_at seen first stop) ++ live_writes seen ids [] ≡ option_to_list (live_at seen first stop)
      none_after [] = append-nil (option_to_list (live_at seen first stop))
      none_after (i ∷ is) = append-nil (option_to_list (live_at seen first stop))
live-push seen (first ∷ ids) (s ∷ stops) id stop some at =
    ap (λ (writes : List Write). option_to_list (live_at seen first s) ++ writes) (live-push seen ids stops id stop (omega arith) at)
    ∙ sym (append_assoc (option_to_list (live_at seen first s)) (live_writes seen ids stops) (option_to_list (live_at seen id stop)))

-- what was found of one id, as a list
one_found : (cell : Option (Arc Write Global)) (write : Option Write) → option_map arc_value cell ≡ write
    → map arc_value (option_to_list cell) ≡ option_to_list write
one_found None write is = ap option_to_list is
one_found (Some cell) write is = ap option_to_list is

pub one_at_most : {A : Type 0} (found : Option A) → length (option_to_list found) ≤ 1
one_at_most None = omega arith
one_at_most (Some x) = omega arith

-- no id was read
pub SoFar-none : (layout : Layout) (view : View) (ids : List (List ℕ)) (found : List (Arc Write Global))
    → found ≡ [] → SoFar layout view view ids 0 found
SoFar-none layout view ids found is = record {
  stops = [];
  keeps = Keeps-none layout view;
  reads = none_read ids;
  count_is = refl;
  found_are = λ later more. ap (map arc_value) is ∙ none_found later ids;
} where
  none_read : (ids : List (List ℕ)) → ReadsEach layout ids []
  none_read [] = tt
  none_read (id ∷ ids) = tt

  none_found : (later : Seen) (ids : List (List ℕ)) → [] ≡ live_writes later ids []
  none_found later [] = refl
  none_found later (id ∷ ids) = refl

module _ (layout : Layout) (old between new : View) (ids : List (List ℕ)) (count : ℕ)
    (found : List (Arc Write Global)) (id : List ℕ) (far : SoFar layout old between ids count found)
    (some : count < length ids) (at : get_or ids count id ≡ id) where
  some_left : length far.stops < length ids
  some_left = subst (λ n. n < length ids) (sym far.count_is) some

  next : get_or ids (length far.stops) id ≡ id
  next = ap (λ n. get_or ids n id) far.count_is ∙ at

  -- one more id was read
  pub SoFar-then : (cell : Option (Arc Write Global)) (all : List (Arc Write Global)) → all ≡ found ++ option_to_list cell
      → IsGot layout between new id (Ok cell)
      → SoFar layout old new ids (count + 1) all
  SoFar-then cell all all_are one = record {
    stops = far.stops ++ one.stop ∷ [];
    keeps = Keeps-then layout old between new far.stops (one.stop ∷ []) far.keeps one.keeps;
    reads = reads-push layout ids far.stops id one.stop far.reads some_left next one.reads;
    count_is = length-append far.stops (one.stop ∷ []) ∙ ap (λ n. n + 1) far.count_is;
    found_are = λ later more.
        let before : map arc_value found ≡ live_writes later ids far.stops =
        far.found_are later (Keeps-sees layout between new (one.stop ∷ []) one.keeps later more) in
        ap (map arc_value) all_are ∙ map-append arc_value found (option_to_list cell)
        ∙ ap (λ (writes : List Write). writes ++ map arc_value (option_to_list cell)) before
        ∙ ap (λ (writes : List Write). live_writes later ids far.stops ++ writes)
        (one_found cell (live_at later id one.stop) (one.found_is later more))
        ∙ sym (live-push later ids far.stops id one.stop some_left next);
  }

  -- memory ran out at the next id
  pub ran_out_at : (fault end : AllocError) → IsGot layout between new id (Err fault) → AreGot layout old new ids (Err end)
  ran_out_at fault end one = record {
    stops = far.stops ++ one.stop ∷ [];
    keeps = Keeps-then layout old between new far.stops (one.stop ∷ []) far.keeps one.keeps;
    reads = reads-push layout ids far.stops id one.stop far.reads some_left next one.reads;
    found_are = tt;
  }

-- memory ran out before an id was read
pub ran_out : (layout : Layout) (view : View) (ids : List (List ℕ)) (end : AllocError) → AreGot layout view view ids (Err end)
ran_out layout view ids end =
    let none = SoFar-none layout view ids [] refl in
    record { stops = none.stops; keeps = none.keeps; reads = none.reads; found_are = tt }

-- each id was read
pub all_got : (layout : Layout) (old new : View) (ids : List (List ℕ)) (count : ℕ) (found cells : List (Arc Write Global))
    → SoFar layout old new ids count found → count ≡ length ids → cells ≡ found → AreGot layout old new ids (Ok cells)
all_got layout old new ids count found cells far all is = record {
  stops = far.stops;
  keeps = far.keeps;
  reads = far.reads;
  found_are = (far.count_is ∙ all, λ later more. ap (map arc_value) is ∙ far.found_are later more);
}
