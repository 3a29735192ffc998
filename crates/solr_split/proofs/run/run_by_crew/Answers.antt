-- What a script left that was run by the first crew is what the crew left.
use Rattle.std.proofs.Common.{refl, inl}
use Rattle.sc_session.specs.declared.station.Crew.{Crew}
use Rattle.sc_server.specs.Serving.{Front}
use Rattle.solr_split.proofs.CrewLemmas.{lends_first}
use Rattle.solr_split.proofs.run.run_by_crew.Goals as goal

pub returns-clause-script : goal.returns-clause-script
returns-clause-script g c =
    let given = c.in-Ok.crew in
    let ran = c.run_script-status in
    let back : Crew g.row.T-C.Denot g.row.T-H.Denot g.row.T-P.Denot g.row.T-L.Denot =
    record { clock = ran.new.clock; hosts = ran.new.hosts; pace = ran.new.pace; listener = given.listener } in
    let lent : Front g.row.T-C.Denot g.row.T-H.Denot g.row.T-P.Denot g.row.T-L.Denot = record {
      crews = g.T.Station.crews c.crew.new.self;
      crews_back = g.T.Station.crews_back c.crew.new.self;
      out = g.T.Station.out c.crew.new.self;
      open_faults = g.T.Station.faults c.crew.new.self;
      opened = g.T.Station.opened c.crew.new.self;
      written = g.W.Sink.written c.args.sink.now;
      write_faults = g.W.Sink.faults c.args.sink.now;
    } in
    inl (record {
      given = given;
      back = back;
      lends = lends_first _ lent _ given back c.in-Ok.ensures.given c.in-Ok.ensures.crews c.back.ensures.crews c.in-Ok.ensures.crews_back
          c.back.ensures.crews_back c.in-Ok.ensures.out c.back.ensures.out refl c.in-Ok.ensures.faults c.back.ensures.faults c.in-Ok.ensures.opened c.back.ensures.opened;
      runs = ran.ensures.script;
      host_fault = ran.ensures.host_fault;
    })
