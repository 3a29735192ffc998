-- Which cause of a refusal is the first that holds.
use Rattle.std.proofs.Common.{◌≡◌, ◌≢◌, ◌∙◌, ℕ, ◌+◌, ◌<◌, ◌≤◌, List, [], length, Some, None, sym, subst, arith}
use Rattle.std.proofs.lemmas.Option.{none-some, same_Some}
use Rattle.std.specs.Prelude.{Result, Ok, Err, IfOk}
use Rattle.sc_cluster.specs.Limits.{most_slices}
use Rattle.sc_cluster.specs.declared.plan.SplitPlan.{SplitPlan}
use Rattle.sc_cluster.specs.declared.slice.State.{State}
use Rattle.sc_cluster.specs.declared.slice.State.TheVariants as states
use Rattle.sc_cluster.specs.declared.slice.Slice.{Slice}
use Rattle.sc_cluster.specs.Slices.{forming}
use Rattle.sc_cluster.proofs.SplitLemmas.{not_idle}
use Rattle.sc_seen.specs.declared.board.BoardEntry.{BoardEntry}
use Rattle.sc_seen.specs.Board.{board_map, BoardHasRoom, BoardIsFull}
use Rattle.sc_board.specs.Splits.{AskedSplit, BoardBasis, IsRunningOf, IsOfNamed, IsTooSmallFor, AreNotOf, MayBeCut, IsCutCause, MaySplit, slice_named, parts_of, Prevents, fault_order, IsFirstCause, IsRefusalBy}
use Rattle.sc_board.specs.Drops.{PreventsDrop, drop_order_of, IsFirstDropCause}
use Rattle.sc_board.specs.Leads.{PreventsLead, lead_order_of, IsFirstLeadCause}
use Rattle.sc_board.specs.declared.cut.Cut.{Cut}
use Rattle.sc_board.specs.declared.cut.Cut.TheVariants as cuts
use Rattle.sc_board.specs.declared.fault.BoardFault.{BoardFault}
use Rattle.sc_board.specs.declared.fault.BoardFault.TheVariants as faults
use Rattle.sc_board.specs.declared.fault.DropFault.{DropFault}
use Rattle.sc_board.specs.declared.fault.DropFault.TheVariants as drops
use Rattle.sc_board.specs.declared.fault.LeadFault.{LeadFault}
use Rattle.sc_board.specs.declared.fault.LeadFault.TheVariants as leads

-- no split is open where no slice is being made
not_running : (slices : List Slice) (name : List ℕ) → forming slices ≡ [] → IsRunningOf slices name → ⊥
not_running slices name idle (parent, splitting, named) = not_idle slices parent splitting idle

-- what is so of the slice of a name is so of this one, where it is the one
of_this : (slices : List Slice) (name : List ℕ) (slice : Slice) (P : Slice → Type 0) → slice_named slices name ≡ Some slice
    → IsOfNamed slices name P → P slice
of_this slices name slice P named (other, is, holds) = subst P (same_Some other slice (sym is ∙ named)) holds

not_unknown : (slices : List Slice) (name : List ℕ) (slice : Slice) → slice_named slices name ≡ Some slice → slice_named slices name ≡ None → ⊥
not_unknown slices name slice named none = none-some slice (sym none ∙ named)

module _ (basis : BoardBasis) (entries : List BoardEntry) (asked : AskedSplit) where
  -- ---- the first three causes
  pub unknown_first : slice_named (board_map basis.first entries) asked.shard ≡ None
      → IsFirstCause basis entries asked faults.UnknownShard
  unknown_first none = record { holds = none; first = λ other before. absurd (omega arith) }

  pub running_first : (name : List ℕ) (slice : Slice) → slice_named (board_map basis.first entries) asked.shard ≡ Some slice
      → IsRunningOf (board_map basis.first entries) name → IsFirstCause basis entries asked (faults.Running name)
  running_first name slice named running = record { holds = running; first = earlier } where
    earlier : (other : BoardFault) → fault_order other < 1 → Prevents basis entries asked other → ⊥
    earlier faults.UnknownShard before none = not_unknown (board_map basis.first entries) asked.shard slice named none
    earlier (faults.Running shard) before is = absurd (omega arith)
    earlier (faults.NotActive state) before is = absurd (omega arith)
    earlier faults.RangeTooSmall before is = absurd (omega arith)
    earlier faults.BadRanges before is = absurd (omega arith)
    earlier faults.TooManySlices before is = absurd (omega arith)
    earlier faults.LogFull before is = absurd (omega arith)
    earlier faults.Memory before is = is

  pub not_active_first : (state : State) (slice : Slice) → slice_named (board_map basis.first entries) asked.shard ≡ Some slice
      → forming (board_map basis.first entries) ≡ [] → slice.state ≡ state → state ≢ states.Active
      → IsFirstCause basis entries asked (faults.NotActive state)
  not_active_first state slice named idle is other_state = record { holds = (slice, named, (is, other_state)); first = earlier } where
    earlier : (other : BoardFault) → fault_order other < 2 → Prevents basis entries asked other → ⊥
    earlier faults.UnknownShard before none = not_unknown (board_map basis.first entries) asked.shard slice named none
    earlier (faults.Running shard) before running = not_running (board_map basis.first entries) shard idle running
    earlier (faults.NotActive state) before is = absurd (omega arith)
    earlier faults.RangeTooSmall before is = absurd (omega arith)
    earlier faults.BadRanges before is = absurd (omega arith)
    earlier faults.TooManySlices before is = absurd (omega arith)
    earlier faults.LogFull before is = absurd (omega arith)
    earlier faults.Memory before is = is

  -- ---- the others, of a slice that may be split
  module _ (slice : Slice) (may : MaySplit (board_map basis.first entries) asked.shard slice) where
    -- none of the first three holds
    not_slice : (other : BoardFault) → fault_order other < 3 → Prevents basis entries asked other → ⊥
    not_slice faults.UnknownShard before none = not_unknown (board_map basis.first entries) asked.shard slice may.named none
    not_slice (faults.Running shard) before running = not_running (board_map basis.first entries) shard may.idle running
    not_slice (faults.NotActive state) before held =
        let here = of_this (board_map basis.first entries) asked.shard slice
        (λ (s : Slice). (s.state ≡ state) × (state ≢ states.Active)) may.named held in
        here.1 (sym here.0 ∙ may.active)
    not_slice faults.RangeTooSmall before is = absurd (omega arith)
    not_slice faults.BadRanges before is = absurd (omega arith)
    not_slice faults.TooManySlices before is = absurd (omega arith)
    not_slice faults.LogFull before is = absurd (omega arith)
    not_slice faults.Memory before is = is

    -- a cut into parts is none into ranges
    not_small : (cut : Cut) → AreNotOf cut slice → IsTooSmallFor cut slice → ⊥
    not_small (cuts.Parts n) other small = other tt
    not_small (cuts.Ranges list) other small = small

    pub cut_first : (fault : BoardFault) → IsCutCause asked.cut slice fault → IsFirstCause basis entries asked fault
    cut_first faults.RangeTooSmall small = record { holds = (slice, may.named, small); first = not_slice }
    cut_first faults.BadRanges others = record { holds = (slice, may.named, others); first = earlier } where
      earlier : (other : BoardFault) → fault_order other < 4 → Prevents basis entries asked other → ⊥
      earlier faults.UnknownShard before held = not_slice faults.UnknownShard (omega arith) held
      earlier (faults.Running shard) before held = not_slice (faults.Running shard) (omega arith) held
      earlier (faults.NotActive state) before held = not_slice (faults.NotActive state) (omega arith) held
      earlier faults.RangeTooSmall before held =
          not_small asked.cut others (of_this (board_map basis.first entries) asked.shard slice (IsTooSmallFor asked.cut) may.named held)
      earlier faults.BadRanges before is = absurd (omega arith)
      earlier faults.TooManySlices before is = absurd (omega arith)
      earlier faults.LogFull before is = absurd (omega arith)
      earlier faults.Memory before is = is
    cut_first faults.UnknownShard is = absurd is
    cut_first (faults.Running shard) is = absurd is
    cut_first (faults.NotActive state) is = absurd is
    cut_first faults.TooManySlices is = absurd is
    cut_first faults.LogFull is = absurd is
    cut_first faults.Memory is = absurd is

    pub cut_refusal : (fault : BoardFault) → IsCutCause asked.cut slice fault → IsRefusalBy basis entries asked fault
    cut_refusal faults.RangeTooSmall small = cut_first faults.RangeTooSmall small
    cut_refusal faults.BadRanges others = cut_first faults.BadRanges others
    cut_refusal faults.UnknownShard is = absurd is
    cut_refusal (faults.Running shard) is = absurd is
    cut_refusal (faults.NotActive state) is = absurd is
    cut_refusal faults.TooManySlices is = absurd is
    cut_refusal faults.LogFull is = absurd is
    cut_refusal faults.Memory is = absurd is

    module _ (fits : MayBeCut asked.cut slice) where
      -- none of the first five holds
      not_cut : (other : BoardFault) → fault_order other < 5 → Prevents basis entries asked other → ⊥
      not_cut faults.UnknownShard before held = not_slice faults.UnknownShard (omega arith) held
      not_cut (faults.Running shard) before held = not_slice (faults.Running shard) (omega arith) held
      not_cut (faults.NotActive state) before held = not_slice (faults.NotActive state) (omega arith) held
      not_cut faults.RangeTooSmall before held =
          fits.large (of_this (board_map basis.first entries) asked.shard slice (IsTooSmallFor asked.cut) may.named held)
      not_cut faults.BadRanges before held =
          of_this (board_map basis.first entries) asked.shard slice (AreNotOf asked.cut) may.named held fits.tile
      not_cut faults.TooManySlices before is = absurd (omega arith)
      not_cut faults.LogFull before is = absurd (omega arith)
      not_cut faults.Memory before is = is

      pub many_first : most_slices < length (board_map basis.first entries) + parts_of asked.cut
          → IsFirstCause basis entries asked faults.TooManySlices
      many_first many = record { holds = many; first = not_cut }

      module _ (few : length (board_map basis.first entries) + parts_of asked.cut ≤ most_slices) where
        not_many : (other : BoardFault) → fault_order other < 6 → Prevents basis entries asked other → ⊥
        not_many faults.UnknownShard before held = not_cut faults.UnknownShard (omega arith) held
        not_many (faults.Running shard) before held = not_cut (faults.Running shard) (omega arith) held
        not_many (faults.NotActive state) before held = not_cut (faults.NotActive state) (omega arith) held
        not_many faults.RangeTooSmall before held = not_cut faults.RangeTooSmall (omega arith) held
        not_many faults.BadRanges before held = not_cut faults.BadRanges (omega arith) held
        not_many faults.TooManySlices before held = omega arith
        not_many faults.LogFull before is = absurd (omega arith)
        not_many faults.Memory before is = is

        pub full_first : BoardIsFull 4 basis.limit basis.first entries → IsFirstCause basis entries asked faults.LogFull
        full_first full = record { holds = full; first = not_many }

        pub none_holds : BoardHasRoom 4 basis.limit basis.first entries → (cause : BoardFault) → Prevents basis entries asked cause → ⊥
        none_holds room faults.UnknownShard held = not_cut faults.UnknownShard (omega arith) held
        none_holds room (faults.Running shard) held = not_cut (faults.Running shard) (omega arith) held
        none_holds room (faults.NotActive state) held = not_cut (faults.NotActive state) (omega arith) held
        none_holds room faults.RangeTooSmall held = not_cut faults.RangeTooSmall (omega arith) held
        none_holds room faults.BadRanges held = not_cut faults.BadRanges (omega arith) held
        none_holds room faults.TooManySlices held = omega arith
        none_holds room faults.LogFull held = omega arith
        none_holds room faults.Memory held = held

-- ---- of a drop
module _ (slices : List Slice) (name : List ℕ) where
  pub unknown_drop : slice_named slices name ≡ None → IsFirstDropCause slices name drops.UnknownShard
  unknown_drop none = record { holds = none; first = λ other before. absurd (omega arith) }

  pub running_drop : (shard : List ℕ) (slice : Slice) → slice_named slices name ≡ Some slice → IsRunningOf slices shard
      → IsFirstDropCause slices name (drops.Running shard)
  running_drop shard slice named running = record { holds = running; first = earlier } where
    earlier : (other : DropFault) → drop_order_of other < 1 → PreventsDrop slices name other → ⊥
    earlier drops.UnknownShard before none = not_unknown slices name slice named none
    earlier (drops.Running other) before is = absurd (omega arith)
    earlier (drops.NotInactive state) before is = absurd (omega arith)
    earlier drops.Memory before is = is

  pub not_inactive_drop : (state : State) (slice : Slice) → slice_named slices name ≡ Some slice → forming slices ≡ []
      → slice.state ≡ state → state ≢ states.Inactive → IsFirstDropCause slices name (drops.NotInactive state)
  not_inactive_drop state slice named idle is other_state = record { holds = (slice, named, (is, other_state)); first = earlier } where
    earlier : (other : DropFault) → drop_order_of other < 2 → PreventsDrop slices name other → ⊥
    earlier drops.UnknownShard before none = not_unknown slices name slice named none
    earlier (drops.Running shard) before running = not_running slices shard idle running
    earlier (drops.NotInactive state) before is = absurd (omega arith)
    earlier drops.Memory before is = is

  pub no_drop_cause : (slice : Slice) → slice_named slices name ≡ Some slice → forming slices ≡ [] → slice.state ≡ states.Inactive
      → (cause : DropFault) → PreventsDrop slices name cause → ⊥
  no_drop_cause slice named idle inactive drops.UnknownShard none = not_unknown slices name slice named none
  no_drop_cause slice named idle inactive (drops.Running shard) running = not_running slices shard idle running
  no_drop_cause slice named idle inactive (drops.NotInactive state) held =
      let here = of_this slices name slice (λ (s : Slice). (s.state ≡ state) × (state ≢ states.Inactive)) named held in
      here.1 (sym here.0 ∙ inactive)
  no_drop_cause slice named idle inactive drops.Memory held = held

-- ---- of a leader
module _ (basis : BoardBasis) (entries : List BoardEntry) (name : List ℕ) where
  pub unknown_lead : slice_named (board_map basis.first entries) name ≡ None → IsFirstLeadCause basis entries name leads.UnknownShard
  unknown_lead none = record { holds = none; first = λ other before. absurd (omega arith) }

  pub running_lead : (shard : List ℕ) (slice : Slice) → slice_named (board_map basis.first entries) name ≡ Some slice
      → IsRunningOf (board_map basis.first entries) shard → IsFirstLeadCause basis entries name (leads.Running shard)
  running_lead shard slice named running = record { holds = running; first = earlier } where
    earlier : (other : LeadFault) → lead_order_of other < 1 → PreventsLead basis entries name other → ⊥
    earlier leads.UnknownShard before none = not_unknown (board_map basis.first entries) name slice named none
    earlier (leads.Running other) before is = absurd (omega arith)
    earlier (leads.NotActive state) before is = absurd (omega arith)
    earlier leads.LogFull before is = absurd (omega arith)
    earlier leads.Memory before is = is

  pub not_active_lead : (state : State) (slice : Slice) → slice_named (board_map basis.first entries) name ≡ Some slice
      → forming (board_map basis.first entries) ≡ [] → slice.state ≡ state → state ≢ states.Active
      → IsFirstLeadCause basis entries name (leads.NotActive state)
  not_active_lead state slice named idle is other_state = record { holds = (slice, named, (is, other_state)); first = earlier } where
    earlier : (other : LeadFault) → lead_order_of other < 2 → PreventsLead basis entries name other → ⊥
    earlier leads.UnknownShard before none = not_unknown (board_map basis.first entries) name slice named none
    earlier (leads.Running shard) before running = not_running (board_map basis.first entries) shard idle running
    earlier (leads.NotActive state) before is = absurd (omega arith)
    earlier leads.LogFull before is = absurd (omega arith)
    earlier leads.Memory before is = is

  module _ (slice : Slice) (may : MaySplit (board_map basis.first entries) name slice) where
    -- none of the first three holds
    not_led_slice : (other : LeadFault) → lead_order_of other < 3 → PreventsLead basis entries name other → ⊥
    not_led_slice leads.UnknownShard before none = not_unknown (board_map basis.first entries) name slice may.named none
    not_led_slice (leads.Running shard) before running = not_running (board_map basis.first entries) shard may.idle running
    not_led_slice (leads.NotActive state) before held =
        let here = of_this (board_map basis.first entries) name slice (λ (s : Slice). (s.state ≡ state) × (state ≢ states.Active))
        may.named held in
        here.1 (sym here.0 ∙ may.active)
    not_led_slice leads.LogFull before is = absurd (omega arith)
    not_led_slice leads.Memory before is = is

    pub full_lead : BoardIsFull 1 basis.limit basis.first entries → IsFirstLeadCause basis entries name leads.LogFull
    full_lead full = record { holds = full; first = not_led_slice }

    pub no_lead_cause : BoardHasRoom 1 basis.limit basis.first entries → (cause : LeadFault) → PreventsLead basis entries name cause → ⊥
    no_lead_cause room leads.UnknownShard held = not_led_slice leads.UnknownShard (omega arith) held
    no_lead_cause room (leads.Running shard) held = not_led_slice (leads.Running shard) (omega arith) held
    no_lead_cause room (leads.NotActive state) held = not_led_slice (leads.NotActive state) (omega arith) held
    no_lead_cause room leads.LogFull held = omega arith
    no_lead_cause room leads.Memory held = held

-- ---- a plan
-- what is so of the plan that is given
pub plan_parts : (planned : Result SplitPlan BoardFault) (A B C P : SplitPlan → Type 0) → IfOk planned A → IfOk planned B → IfOk planned C
    → ((plan : SplitPlan) → A plan → B plan → C plan → P plan) → IfOk planned P
plan_parts (Ok plan) A B C P a b c all = all plan a b c
plan_parts (Err fault) A B C P a b c all = a
