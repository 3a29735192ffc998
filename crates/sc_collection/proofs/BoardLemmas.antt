-- What a hold and a give of the board leave of a desk for one thread.
use Rattle.std.proofs.Common.{◌≡◌, ◌≢◌, ◌⊎◌, inl, inr, ◌≤◌, ℕ, false, cond, List, [], ◌∷◌, ◌++◌, length, Option, Some, None, refl, sym, ap, ◌∙◌, subst, arith}
use Rattle.std.specs.Prelude.{◌==◌, if◌then◌else◌}
use Rattle.std.proofs.lemmas.Bool.Decides.{nat_tests}
use Rattle.sc_cluster.specs.declared.slice.Slice.{Slice}
use Rattle.sc_seen.specs.declared.board.BoardEntry.{BoardEntry}
use Rattle.sc_seen.specs.Board.{IsLegalBoard}
use Rattle.sc_seen.specs.Seen.{opened_at, Seen, AreLegal}
use Rattle.sc_board.specs.declared.board.Board.{Board}
use Rattle.sc_board.specs.Boards.{IsSoundBoard}
use Rattle.sc_collection.specs.Desks.{Keeping, KeepsOn, StillFit, IsBoardOf, MayReplaceBoard, SeesBoardGiven, AreAtRest, place_added}
use Rattle.sc_collection.specs.Alone.{AloneState, desk_of, layout_alone, out_alone, board_out_of, journal_of, entries_in, entries_alone, places, pass_places, seen_alone, keeping_alone, KeepersAreOut, IsHome, IsDesk}
use Rattle.sc_collection.specs.declared.alone.Alone.TheInside.{Inside}
use Rattle.std.proofs.lemmas.List.{length_push}
use Rattle.sc_collection.proofs.PlaceLemmas.{places_added}
use Rattle.sc_collection.proofs.DeskLemmas.{desk_is_legal, own_of_board, out_of_desk}
use Rattle.sc_collection.proofs.HoldLemmas.{value_of}

-- the desk once the board was handed out, with these entries
abbrev pub without_board : AloneState → List BoardEntry → AloneState
without_board desk entries = record desk { board = None; board_out = Some entries }

-- the desk once this board was taken back
abbrev pub with_board : AloneState → Board (Unit {0}) → AloneState
with_board desk board = record desk { board = Some board; board_out = None }

-- where none is out the board is there
pub board_is_there : (desk : AloneState) → IsDesk desk → desk.board_out ≡ None → (board : Board (Unit {0})) × (desk.board ≡ Some board)
board_is_there desk is none = by desk.board refl where
  by : (board : Option (Board (Unit {0}))) → desk.board ≡ board → (one : Board (Unit {0})) × (desk.board ≡ Some one)
  by (Some board) at = (board, at)
  by None at = let out = is.away at in let both : None ≡ Some out.0 = sym none ∙ out.1 in absurd (cc)

-- and where one is out it is not
board_is_away : (desk : AloneState) → IsDesk desk → (entries : List BoardEntry) → desk.board_out ≡ Some entries → desk.board ≡ None
board_is_away desk is entries out = by desk.board refl where
  by : (board : Option (Board (Unit {0}))) → desk.board ≡ board → desk.board ≡ None
  by None at = at
  by (Some board) at = let none : None ≡ Some entries = sym (is.home board at).none_out ∙ out in absurd (cc)

-- the board is handed out
module _ (desk : AloneState) (is : IsDesk desk) (board : Board (Unit {0})) (there : desk.board ≡ Some board) where
  home : IsHome desk board
  home = is.home board there

  pub board_entries_are : entries_alone desk ≡ board.journal.entries
  board_entries_are = ap (λ (one : Option (Board (Unit {0}))). entries_in one desk.board_out) there

  pub without_board_seen : seen_alone (without_board desk board.journal.entries) ≡ seen_alone desk
  without_board_seen = ap seen_by (sym board_entries_are) where
    seen_by : List BoardEntry → Seen
    seen_by entries = record {
      journals = λ lock. journal_of desk lock;
      board = entries;
      own = λ lock. if lock == desk.layout.buckets then places desk.layout.opened.board entries
          else pass_places (opened_at desk.layout.opened lock) (journal_of desk lock);
    }

  legal : IsLegalBoard desk.layout.first board.journal.entries
  legal = subst (λ (first : List Slice). IsLegalBoard first board.journal.entries) home.is_of.first_is home.sound.legal

  pub without_board_is_desk : IsDesk (without_board desk board.journal.entries)
  without_board_is_desk = record {
    count = is.count;
    buckets = is.buckets;
    nodes = is.nodes;
    kept = is.kept;
    empty = is.empty;
    is_out = λ held at. let out = is.is_out held at in record { slot = out.slot; kept = out.kept };
    home = λ one at. absurd (cc);
    away = λ none. (board.journal.entries, refl, legal, home.since);
  }

-- the board is taken back
module _ (desk : AloneState) (is : IsDesk desk) (entries : List BoardEntry) (out : desk.board_out ≡ Some entries) (board : Board (Unit {0}))
  where
    entries_were : entries_alone desk ≡ entries
    entries_were =
        ap (λ (one : Option (Board (Unit {0}))). entries_in one desk.board_out) (board_is_away desk is entries out)
        ∙ ap (entries_in None) out

    -- it had the entries that it had when the collection was opened
    since : desk.layout.opened.board ≤ length entries
    since =
        let was = is.away (board_is_away desk is entries out) in
        let both : Some entries ≡ Some was.0 = sym out ∙ was.1 in
        let same : was.0 ≡ entries = cc in
        subst (λ (all : List BoardEntry). desk.layout.opened.board ≤ length all) same was.3

    since_given : MayReplaceBoard desk.layout (seen_alone desk) entries board.journal.entries
        → desk.layout.opened.board ≤ length board.journal.entries
    since_given (inl same) = subst (λ (all : List BoardEntry). desk.layout.opened.board ≤ length all) (sym same) since
    since_given (inr (one, is_one, own)) =
        subst (λ (all : List BoardEntry). desk.layout.opened.board ≤ length all) (sym is_one) (omega (arith, since, length_push entries one))

    pub with_board_is_desk : IsSoundBoard board → IsBoardOf desk.layout board.first board.limit
        → MayReplaceBoard desk.layout (seen_alone desk) entries board.journal.entries
        → (board.keepers ≡ Some tt → AreAtRest desk.layout board.journal.entries (keeping_alone desk)) → IsDesk (with_board desk board)
    with_board_is_desk sound is_of may rest = record {
      count = is.count;
      buckets = is.buckets;
      nodes = is.nodes;
      kept = is.kept;
      empty = is.empty;
      is_out = λ held at. let was = is.is_out held at in record { slot = was.slot; kept = was.kept };
      home = λ one at. subst (IsHome (with_board desk board)) (same at)
          (record { sound = sound; is_of = is_of; since = since_given may; rest = rest; none_out = refl });
      away = λ none. absurd (cc);
    } where
      same : {one : Board (Unit {0})} → Some board ≡ Some one → board ≡ one
      same at = cc

    pub with_board_sees : MayReplaceBoard desk.layout (seen_alone desk) entries board.journal.entries
        → SeesBoardGiven desk.layout entries board.journal.entries (seen_alone desk) (seen_alone (with_board desk board))
    with_board_sees may = record {
      board = refl;
      journals = λ lock. refl;
      own =
          own_of_board (with_board desk board) ∙ places_added desk.layout.opened.board entries board.journal.entries since (adds may)
          ∙ ap (λ (before : List ℕ). before ++ place_added entries board.journal.entries)
          (ap (places desk.layout.opened.board) (sym entries_were) ∙ sym (own_of_board desk));
      others_own = λ lock other. others lock other;
    } where
      adds : MayReplaceBoard desk.layout (seen_alone desk) entries board.journal.entries
          → (board.journal.entries ≡ entries) ⊎ ((one : BoardEntry) × (board.journal.entries ≡ entries ++ one ∷ []))
      adds (inl same) = inl same
      adds (inr (one, is_one, own)) = inr (one, is_one)

      others : (lock : ℕ) → lock ≢ desk.layout.buckets → (seen_alone (with_board desk board)).own lock ≡ (seen_alone desk).own lock
      others lock other =
          let no : (lock == desk.layout.buckets) ≡ false = grind (arith, nat_tests) in
          ap (λ b. cond b (places desk.layout.opened.board board.journal.entries) (passes lock)) no
          ∙ sym (ap (λ b. cond b (places desk.layout.opened.board (entries_alone desk)) (passes lock)) no)
        where
          passes : ℕ → List ℕ
          passes number = pass_places (opened_at desk.layout.opened number) (journal_of desk number)

-- what a hold of the board leaves
pub record IsBoardHold (desk new : AloneState) (board : Board (Unit {0})) : Type 0 where
  pub is : IsDesk new
  pub sound : IsSoundBoard board
  pub is_of : IsBoardOf desk.layout board.first board.limit
  pub same : board.journal.entries ≡ (seen_alone desk).board
  pub rest : board.keepers ≡ Some tt → KeepersAreOut new × AreAtRest desk.layout board.journal.entries (keeping_alone new)
  pub out : out_of_desk new ≡ record (out_of_desk desk) { board = Some board.journal.entries }
  pub seen : seen_alone new ≡ seen_alone desk
  pub legal : AreLegal new.layout (seen_alone new)
  pub layout : new.layout ≡ desk.layout
  pub keepers : StillFit (KeepersAreOut new) (keeping_alone desk) (keeping_alone new)

-- where there is no board, somebody else has the keepers
none_has_keepers : (desk : AloneState) → desk.board ≡ None → KeepersAreOut desk
none_has_keepers desk none board there = absurd (let both : None ≡ Some board = sym none ∙ there in cc)

-- what keepers keep stays
keeps_on : (keeping : Keeping) → KeepsOn keeping keeping
keeps_on keeping = record { part = λ number. refl; own = λ number. refl }

-- the board is taken from a desk where none is out
pub board_is_held : (desk new : AloneState) (board : Board (Unit {0})) → IsDesk desk → desk.board ≡ Some board
    → new ≡ without_board desk board.journal.entries → IsBoardHold desk new board
board_is_held desk new board is there after = subst (λ (one : AloneState). IsBoardHold desk one board) (sym after) (record {
  is = without_board_is_desk desk is board there;
  sound = home.sound;
  is_of = home.is_of;
  same = sym (board_entries_are desk is board there);
  rest = λ has. (out, home.rest has);
  out = refl;
  seen = without_board_seen desk is board there;
  legal = desk_is_legal without (without_board_is_desk desk is board there);
  layout = refl;
  keepers = (out, keeps_on (keeping_alone desk));
}) where
  without : AloneState
  without = without_board desk board.journal.entries

  home : IsHome desk board
  home = is.home board there

  out : KeepersAreOut (without_board desk board.journal.entries)
  out = none_has_keepers (without_board desk board.journal.entries) refl

-- only one board is out
one_board_is_out : (desk : AloneState) (entries other : List BoardEntry) → desk.board_out ≡ Some entries → desk.board_out ≡ Some other
    → entries ≡ other
one_board_is_out desk entries other there is_other = let both : Some entries ≡ Some other = sym there ∙ is_other in cc

-- what a give of the board leaves
pub record IsBoardGive (desk new : AloneState) (board : Board (Unit {0})) : Type 0 where
  pub is : IsDesk new
  pub sees : (other : List BoardEntry) → desk.board_out ≡ Some other
      → SeesBoardGiven desk.layout other board.journal.entries (seen_alone desk) (seen_alone new)
  pub out : out_of_desk new ≡ record (out_of_desk desk) { board = None }
  pub legal : AreLegal new.layout (seen_alone new)
  pub layout : new.layout ≡ desk.layout
  pub keepers : board.keepers ≡ None → StillFit (KeepersAreOut new) (keeping_alone desk) (keeping_alone new)

-- the board is put back where its entries are out
pub board_is_given : (desk new : AloneState) (entries : List BoardEntry) (board : Board (Unit {0})) → IsDesk desk
    → desk.board_out ≡ Some entries → IsSoundBoard board → IsBoardOf desk.layout board.first board.limit
    → MayReplaceBoard desk.layout (seen_alone desk) entries board.journal.entries
    → (board.keepers ≡ Some tt → AreAtRest desk.layout board.journal.entries (keeping_alone desk))
    → new ≡ with_board desk board → IsBoardGive desk new board
board_is_given desk new entries board is out sound is_of may rest after =
    subst (λ (one : AloneState). IsBoardGive desk one board) (sym after) (record {
      is = back;
      sees = λ other there. subst
          (λ (were : List BoardEntry). SeesBoardGiven desk.layout were board.journal.entries (seen_alone desk) (seen_alone (with_board desk board)))
          (one_board_is_out desk entries other out there) (with_board_sees desk is entries out board may);
      out = refl;
      legal = desk_is_legal (with_board desk board) back;
      layout = refl;
      keepers = λ none. (λ one there. fits none there, keeps_on (keeping_alone desk));
    })
  where
    back : IsDesk (with_board desk board)
    back = with_board_is_desk desk is entries out board sound is_of may rest

    fits : board.keepers ≡ None → {one : Board (Unit {0})} → Some board ≡ Some one → one.keepers ≡ None
    fits none {one} there = let same : board ≡ one = cc in subst (λ (b : Board (Unit {0})). b.keepers ≡ None) same none

-- the board is put back by the fields of the desk
pub given_of_fields : (fields : Inside) (more : List (Unit {0} × Board (Unit {0}))) (desk : AloneState) (entries : List BoardEntry)
    (board : Board (Unit {0}))
    → value_of fields ≡ desk → IsDesk (value_of fields) → desk.board_out ≡ Some entries → IsSoundBoard board
    → IsBoardOf desk.layout board.first board.limit → MayReplaceBoard desk.layout (seen_alone desk) entries board.journal.entries
    → (board.keepers ≡ Some tt → AreAtRest desk.layout board.journal.entries (keeping_alone desk)) → more ≡ []
    → IsBoardGive desk (desk_of (layout_alone fields.slots.items fields.nodes fields.first fields.limit fields.opened) fields.slots.items
    (out_alone fields.out.items) (Some board) (board_out_of more)) board
given_of_fields fields more desk entries board view is out sound is_of may rest history =
    board_is_given desk (after more) entries board (subst IsDesk view is) out sound is_of may rest
    (ap after history ∙ ap (λ (old : AloneState). with_board old board) view)
  where
    after : List (Unit {0} × Board (Unit {0})) → AloneState
    after items = desk_of (layout_alone fields.slots.items fields.nodes fields.first fields.limit fields.opened) fields.slots.items
        (out_alone fields.out.items) (Some board) (board_out_of items)

-- the board is there, by the fields of the desk
pub there_by_fields : (fields : Inside) (desk : AloneState) → value_of fields ≡ desk → IsDesk (value_of fields) → desk.board_out ≡ None
    → (board : Board (Unit {0})) × (fields.board ≡ Some board)
there_by_fields fields desk view is none =
    board_is_there (value_of fields) is (ap (λ (d : AloneState). d.board_out) view ∙ none)

-- and it is taken by them: nothing is left there
pub held_of_fields : (fields : Inside) (more : List (Unit {0} × Board (Unit {0}))) (left : Option (Board (Unit {0}))) (desk : AloneState)
    (board : Board (Unit {0}))
    → value_of fields ≡ desk → IsDesk (value_of fields) → fields.board ≡ Some board → left ≡ None → more ≡ (tt, board) ∷ []
    → IsBoardHold desk (desk_of (layout_alone fields.slots.items fields.nodes fields.first fields.limit fields.opened) fields.slots.items
    (out_alone fields.out.items) left (board_out_of more)) board
held_of_fields fields more left desk board view is there none history =
    board_is_held desk (after left more) board (subst IsDesk view is) (ap (λ (d : AloneState). d.board) (sym view) ∙ there)
    (ap (λ (one : Option (Board (Unit {0}))). after one more) none ∙ ap (after None) history
    ∙ ap (λ (old : AloneState). without_board old board.journal.entries) view)
  where
    after : Option (Board (Unit {0})) → List (Unit {0} × Board (Unit {0})) → AloneState
    after one items = desk_of (layout_alone fields.slots.items fields.nodes fields.first fields.limit fields.opened) fields.slots.items
        (out_alone fields.out.items) one (board_out_of items)
