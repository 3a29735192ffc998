-- Lists of numbers that are not joined yet.
use Rattle.std.specs.Prelude.{◌≡◌, ℕ, Bool, List, Option, IfSome, ⊤}
use Rattle.std.specs.List.Sorted.{IsStrictlyIncreasing}
use Rattle.sc_record.specs.Writes.{Write}
use Rattle.sc_rows.specs.Joining.{BothEndBefore, IsJoin}
use Rattle.sc_eval.specs.Numbers.{numbers_of, AreNumbersOf}
use Rattle.sc_eval.specs.declared.unjoined.Unjoined.{Unjoined}
use Rattle.sc_eval.specs.declared.unjoined.Unjoined.TheVariants.{One, Two}

-- an end, where there is one, is above the numbers of both of two lists
abbrev pub IsEnd : Unjoined → Option ℕ → Type 0
IsEnd (One numbers) end = ⊤
IsEnd (Two how left right noted) end = IfSome end (BothEndBefore (numbers_of left) (numbers_of right))

-- two lists ascend, and their end, where it was noted, is above the numbers of both, so that they can be joined
abbrev pub CanBeJoined : Unjoined → Type 0
CanBeJoined (One numbers) = ⊤
CanBeJoined (Two how left right noted) =
    IsStrictlyIncreasing (numbers_of left) × IsStrictlyIncreasing (numbers_of right)
    × IfSome noted (BothEndBefore (numbers_of left) (numbers_of right))

-- the list is the one, or what is kept of the two
abbrev pub IsJoined : Unjoined → List ℕ → Type 0
IsJoined (One numbers) list = list ≡ numbers_of numbers
IsJoined (Two how left right end) list = IsJoin how (numbers_of left) (numbers_of right) list

-- once they are joined they are the numbers of the rows that pass the test
pub record WillBeNumbersOf (test : Write → Bool) (rows : List Write) (unjoined : Unjoined) : Type 0 where
  pub ready : CanBeJoined unjoined
  pub joined : (numbers : List ℕ) → IsJoined unjoined numbers → AreNumbersOf test rows numbers
