-- The name is that of the slice whose split is open.
use Rattle.std.proofs.Common.{sym}
use Rattle.sc_cluster.proofs.FindLemmas.{found_is}
use Rattle.sc_board.proofs.NamedLemmas.{named_running}
use Rattle.sc_board.proofs.SoundLemmas.{sound_idle}
use Rattle.sc_board.proofs.board.Board.running_name.Goals as goal

pub returns-in_ok-clone-in-Some : goal.returns-in_ok-clone-in-Some
returns-in_ok-clone-in-Some g c =
    let slices = c.args.self.now.map in
    let id = c.in-Some.running.parent in
    let here = found_is slices id c.by_id.result c.unwrap-parent.result c.by_id.ensures.slice c.unwrap-parent.ensures in
    named_running slices id c.unwrap-parent.result.now c.in_ok-clone-in-Some.field-0 c.by_id.ensures.map c.in-Some.ensures.0 here.0 here.1
    (sym c.in_ok-clone-in-Some.ensures.cases)

pub returns-in-None : goal.returns-in-None
returns-in-None g c = sound_idle c.args.self.now c.requires c.in-None.ensures
