-- What a core is that was made, given its number, and marked as down or filled.
use Rattle.std.proofs.Common.{◌≡◌, ◌∙◌, ◌⊎◌, inl, inr, ◌<◌, ◌^◌, ℕ, pos, Bool, true, false, cond, List, [], map, Contains, refl, sym, ap, subst}
use Rattle.sc_record.specs.Names.{key_of_core}
use Rattle.sc_record.specs.Writes.{Write}
use Rattle.sc_record.specs.declared.slice.CoreId.{CoreId}
use Rattle.sc_record.specs.declared.entry.Entry.{Entry}
use Rattle.sc_ulog.specs.declared.mode.Mode.TheVariants.{Active}
use Rattle.sc_replica.specs.Core.{Core, IsCore}
use Rattle.sc_journal.specs.Down.{is_down}
use Rattle.sc_journal.specs.Seats.{seats}
use Rattle.sc_bucket.proofs.InOrderLemmas.{in_order-of}
use Rattle.sc_restored.specs.Restored.{emptied, Fills, IsFilled}

-- a core that was made in this seat
abbrev pub made_in : CoreId → Core
made_in seat = record {
  core = seat;
  number = seat.replica;
  cells = [];
  mode = Active;
  buffer = [];
  clock = pos 0;
  down = false;
  cell_spare = 0;
  buffer_spare = 0;
}

-- and has this number
abbrev pub numbered : CoreId → ℕ → Core
numbered seat number = record (made_in seat) { number = number }

given : (seat : CoreId) (made core : Core) (number : ℕ) → made ≡ made_in seat → core ≡ record made { number = number }
    → core ≡ numbered seat number
given seat made core number made_is given_is = given_is ∙ ap (λ (c : Core). record c { number = number }) made_is

-- it has no cells
pub has_no_cells : (seat : CoreId) (made core : Core) (number : ℕ) → made ≡ made_in seat → core ≡ record made { number = number }
    → core.cells ≡ []
has_no_cells seat made core number made_is given_is = ap (λ (c : Core). c.cells) (given seat made core number made_is given_is)

-- once it is marked as down
pub filled_down : (seat : CoreId) (entries : List Entry) (cells : List Write) (made core new : Core) (number : ℕ) → seat.replica < 2 ^ 8
    → made ≡ made_in seat → core ≡ record made { number = number } → new ≡ record core { down = true } → IsCore new
    → number ≡ seats entries seat.slice seat.replica → true ≡ is_down entries (key_of_core seat)
    → IsFilled seat entries cells new
filled_down seat entries cells made core new number few made_is given_is down_is is_core number_is down =
    let is : new ≡ record (numbered seat number) { down = true } =
    down_is ∙ ap (λ (c : Core). record c { down = true }) (given seat made core number made_is given_is) in
    let back : record (numbered seat number) { down = true } ≡ new = sym is in
    record {
      seat_is = ap (λ (c : Core). c.core) is;
      counted = subst (λ (c : Core). c.core.replica < 2 ^ 8) back few;
      active = ap (λ (c : Core). c.mode) is;
      buffer = ap (λ (c : Core). c.buffer) is;
      marked = record {
        down = subst (λ (c : Core). c.down ≡ is_down entries (key_of_core c.core)) back down;
        number = subst (λ (c : Core). c.number ≡ seats entries c.core.slice c.core.replica) back number_is;
      };
      cells_are = subst (λ (c : Core). c.cells ≡ cond c.down [] cells) back refl;
      clock = inl (ap (λ (c : Core). c.clock) is);
      in_order = in_order-of new is_core;
    }

-- or once it is filled
pub filled_up : (seat : CoreId) (entries : List Entry) (cells : List Write) (made core new : Core) (number : ℕ) → seat.replica < 2 ^ 8
    → made ≡ made_in seat → core ≡ record made { number = number } → Fills cells core new → IsCore new
    → number ≡ seats entries seat.slice seat.replica → false ≡ is_down entries (key_of_core seat)
    → IsFilled seat entries cells new
filled_up seat entries cells made core new number few made_is given_is fills is_core number_is up =
    let before = given seat made core number made_is given_is in
    let rest : emptied new ≡ emptied (numbered seat number) = fills.rest ∙ ap emptied before in
    let back : emptied (numbered seat number) ≡ emptied new = sym rest in
    let down_is : new.down ≡ false = ap (λ (c : Core). c.down) rest in
    record {
      seat_is = ap (λ (c : Core). c.core) rest;
      counted = subst (λ (c : Core). c.core.replica < 2 ^ 8) back few;
      active = ap (λ (c : Core). c.mode) rest;
      buffer = ap (λ (c : Core). c.buffer) rest;
      marked = record {
        down = subst (λ (c : Core). c.down ≡ is_down entries (key_of_core c.core)) back up;
        number = subst (λ (c : Core). c.number ≡ seats entries c.core.slice c.core.replica) back number_is;
      };
      cells_are = fills.cells ∙ sym (ap (λ (b : Bool). cond b [] cells) down_is);
      clock = by fills.clock;
      in_order = in_order-of new is_core;
    }
  where
    by : (new.clock ≡ core.clock) ⊎ Contains (map (λ (write : Write). write.version) cells) new.clock
        → (new.clock ≡ pos 0) ⊎ Contains (map (λ (write : Write). write.version) cells) new.clock
    by (inl same) = inl (same ∙ ap (λ (c : Core). c.clock) (given seat made core number made_is given_is))
    by (inr there) = inr there
