-- The board was held as it was, and given back so: its slices are shown at one stop.
use Rattle.std.proofs.Common.{◌≡◌, ◌≢◌, ◌≤◌, ℕ, Bool, true, false, cond, List, [], ◌∷◌, ◌++◌, length, take, refl, sym, ap, ◌∙◌, subst, arith}
use Rattle.std.specs.Prelude.{◌==◌, ◌<◌, map, filter, Result, Ok, Err, IfOk}
use Rattle.std.specs.declared.alloc.AllocError.{AllocError}
use Rattle.std.proofs.lemmas.Bool.Decides.{nat_tests}
use Rattle.std.proofs.lemmas.List.{append-nil}
use mathlib.Core.List.{IsPrefix}
use Rattle.sc_cluster.specs.declared.slice.Slice.{Slice}
use Rattle.sc_model.specs.Replies as model
use Rattle.sc_admin.specs.Status.{status_text}
use Rattle.sc_seen.specs.Board.{board_map}
use Rattle.sc_seen.specs.Seen.{Layout, Seen, Extends, SeesMore, ComeInOrder, entries_at}
use Rattle.sc_seen.specs.Moments.{view_of}
use Rattle.sc_seen.specs.declared.board.BoardEntry.{BoardEntry}
use Rattle.sc_seen.specs.declared.stop.Stop.{Stop}
use Rattle.sc_seen.proofs.ExtendsLemmas.{IsPrefix-self, IsPrefix-length, NotesBoard-same}
use Rattle.sc_seen.proofs.GoesOnLemmas.{take-prefix}
use Rattle.sc_board.specs.declared.board.Board.{Board}
use Rattle.sc_board.specs.Boards.{IsSoundBoard}
use Rattle.sc_collection.specs.Kept.{Kept}
use Rattle.sc_collection.specs.Desks.{IsBoardOf, SeesBoardGiven}
use Rattle.sc_collection.proofs.PlaceLemmas.{place_added-none}
use Rattle.sc_collection.proofs.StopLemmas.{same_lock}
use Rattle.sc_session.specs.Answers.{replied, status_reply}
use Rattle.sc_session.specs.Answering.{ShowsStatus, IsAnswerOf, reply_of, answer_of}
use Rattle.sc_session.specs.declared.reply.Reply.{Reply}

-- the stop at which the board was held
abbrev pub board_stop : Layout → List BoardEntry → Stop
board_stop layout held = record { lock = layout.buckets; place = length held; made = false }

-- so it is kept
pub board_kept : (layout held_by given_to : Layout) (held : List BoardEntry) (old new : Kept) (lock place : ℕ) → held_by ≡ layout → given_to ≡ held_by
    → lock ≡ given_to.buckets → place ≡ length held
    → new ≡ record { stops = old.stops ++ record { lock = lock; place = place; made = false } ∷ []; requests = old.requests }
    → new.stops ≡ old.stops ++ board_stop layout held ∷ []
board_kept layout held_by given_to held old new lock place one two at there kept =
    ap (λ (all : Kept). all.stops) kept
    ∙ ap (λ n. let stop : Stop = record { lock = n; place = place; made = false } in old.stops ++ stop ∷ [])
    (at ∙ ap (λ (l : Layout). l.buckets) (two ∙ one))
    ∙ ap (λ n. let stop : Stop = record { lock = layout.buckets; place = n; made = false } in old.stops ++ stop ∷ []) there

-- a body that was printed of these slices and so many nodes is that reply's
pub board_told : (layout : Layout) (printed slices : List Slice) (nodes : ℕ) (body : List ℕ) (reply : model.Reply) → reply ≡ record { status = 200; body = body }
    → body ≡ status_text printed nodes → printed ≡ slices → nodes ≡ layout.nodes
    → reply ≡ record { status = 200; body = status_text slices layout.nodes }
board_told layout printed slices nodes body reply is text one two =
    is ∙ ap (λ (bytes : List ℕ). record { status = 200; body = bytes })
    (text ∙ ap (λ (all : List Slice). status_text all nodes) one ∙ ap (status_text slices) two)

-- no entry of the board is one's own
board_own : (layout : Layout) (old new : Seen) (held : List BoardEntry) → SeesBoardGiven layout held held old new
    → new.own layout.buckets ≡ old.own layout.buckets
board_own layout old new held sees =
    sees.own ∙ ap (λ places. old.own layout.buckets ++ places) (place_added-none held) ∙ append-nil (old.own layout.buckets)

-- what is seen of the board goes on up to that stop, and nothing else does
board_held : (layout : Layout) (old new : Seen) (held : List BoardEntry) → IsPrefix old.board held → SeesBoardGiven layout held held old new
    → Extends layout old new (board_stop layout held ∷ [])
board_held layout old new held begins sees = record {
  seen = λ lock. subst (IsPrefix (old.journals lock)) (sym (sees.journals lock)) (IsPrefix-self (old.journals lock));
  board = subst (IsPrefix old.board) (sym sees.board) begins;
  own = λ lock below. sees.others_own lock (apart lock below) ∙ sym (ap (λ places. old.own lock ++ places) (none_made (layout.buckets == lock)) ∙ append-nil (old.own lock));
  notes = NotesBoard-same layout old new (stop ∷ []) (board_own layout old new held sees) (none_made (layout.buckets == layout.buckets));
  ascend = λ lock. ascend lock (layout.buckets == lock) refl;
  within = (record { lock = omega arith; place = within }, tt);
}
  where
    stop : Stop
    stop = board_stop layout held

    apart : (lock : ℕ) → lock < layout.buckets → lock ≢ layout.buckets
    apart lock below = grind (arith, nat_tests)

    none_made : (b : Bool) → map (λ (s : Stop). s.place) (filter (λ (s : Stop). s.made) (cond b (stop ∷ []) [])) ≡ []
    none_made true = refl
    none_made false = refl

    entries : (seen : Seen) → entries_at layout seen layout.buckets ≡ length seen.board
    entries seen =
        let same : (layout.buckets == layout.buckets) ≡ true = grind (arith, nat_tests) in
        ap (λ b. cond b (length seen.board) (length (seen.journals layout.buckets))) same

    within : length held ≤ entries_at layout new layout.buckets
    within = let count = entries new in let is = ap length sees.board in omega (arith, count, is)

    first : entries_at layout old layout.buckets ≤ length held
    first = let count = entries old in let less = IsPrefix-length old.board held begins in omega (arith, count, less)

    ascend : (lock : ℕ) (b : Bool) → (layout.buckets == lock) ≡ b → ComeInOrder (entries_at layout old lock) (cond b (stop ∷ []) [])
    ascend lock true is = (subst (λ n. entries_at layout old n ≤ length held) (same_lock layout.buckets lock is) first, tt)
    ascend lock false is = tt

-- the slices are shown as they are then
shown : (layout : Layout) (old new : Seen) (held : List BoardEntry) (slices : List Slice) (stops more : List Stop) (answer : Result Reply AllocError)
    → IsPrefix old.board held → SeesBoardGiven layout held held old new → slices ≡ board_map layout.first held
    → more ≡ stops ++ board_stop layout held ∷ []
    → IfOk answer (λ reply. reply_of reply ≡ record { status = 200; body = status_text slices layout.nodes })
    → ShowsStatus layout (view_of old stops) (view_of new more) (answer_of answer)
shown layout old new held slices stops more answer begins sees map_is kept told = record {
  stop = board_stop layout held;
  lock = refl;
  made = refl;
  extends = board_held layout old new held begins sees;
  stays = sees.journals;
  board_own = board_own layout old new held sees;
  kept = kept;
  answered = λ later grown. by later grown answer told;
}
  where
    by : (later : Seen) → SeesMore new later → (answer : Result Reply AllocError)
        → IfOk answer (λ reply. reply_of reply ≡ record { status = 200; body = status_text slices layout.nodes })
        → IsAnswerOf (replied (status_reply layout later (board_stop layout held))) (answer_of answer)
    by later grown (Ok reply) is =
        let there : take (length held) later.board ≡ held =
        take-prefix held later.board (subst (λ (entries : List BoardEntry). IsPrefix entries later.board) sees.board grown.board) in
        ap (λ (entries : List BoardEntry). replied (record { status = 200; body = status_text (board_map layout.first entries) layout.nodes })) there
        ∙ ap (λ (all : List Slice). replied (record { status = 200; body = status_text all layout.nodes })) (sym map_is)
        ∙ ap replied (sym is)
    by later grown (Err fault) is = tt

-- so are those of the board that was handed out and given back
pub board_shown : {K : Type 0} (board : Board K) (layout layout' : Layout) (old old' new : Seen) (stops more : List Stop) (answer : Result Reply AllocError)
    → IsSoundBoard board → IsBoardOf layout board.first board.limit → IsPrefix old.board board.journal.entries → layout' ≡ layout → old' ≡ old
    → SeesBoardGiven layout' board.journal.entries board.journal.entries old' new → more ≡ stops ++ board_stop layout board.journal.entries ∷ []
    → IfOk answer (λ reply. reply_of reply ≡ record { status = 200; body = status_text board.map layout.nodes })
    → ShowsStatus layout (view_of old stops) (view_of new more) (answer_of answer)
board_shown board layout layout' old old' new stops more answer sound is_of begins same_layout same_seen sees kept told =
    shown layout old new board.journal.entries board.map stops more answer begins
    (subst (λ (l : Layout). SeesBoardGiven l board.journal.entries board.journal.entries old new) same_layout
    (subst (λ (s : Seen). SeesBoardGiven layout' board.journal.entries board.journal.entries s new) same_seen sees))
    (sound.map_is ∙ ap (λ (first : List Slice). board_map first board.journal.entries) is_of.first_is) kept told
