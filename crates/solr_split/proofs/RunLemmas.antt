-- A clock that stands still gives one timestamp.
use Rattle.std.proofs.Common.{◌≡◌, ℕ, List, [], ◌∷◌, ◌++◌, Some, refl, ap, ◌∙◌}
use Rattle.sc_io.specs.declared.memory.Fixed.{Fixed}
use Rattle.sc_seen.specs.Batches.{GivesTimestamps}
use Rattle.sc_seen.specs.Seen.{Layout}
use Rattle.sc_session.specs.Connection.{exchanges_of, timestamps_of}
use Rattle.sc_session.specs.States.{ConnectionState}
use Rattle.sc_session.specs.Served.{IsServed}
use Rattle.sc_session.specs.declared.end.End.{End}
use Rattle.solr_split.specs.Running.{clock_of}

-- the timestamps of a fixed clock are those of a script that names one
pub fixed_timestamps : {C : Type 0} (gives : C → ℕ → C → Type 0) (timestamp : ℕ) (clock : C) (timestamps : List ℕ) (old new : Fixed) → old.moment ≡ timestamp
    → GivesTimestamps (λ (s : Fixed) (now : ℕ) (t : Fixed). (now ≡ s.moment) × (t ≡ s)) old timestamps new → GivesTimestamps (clock_of (Some timestamp) gives) clock timestamps clock
fixed_timestamps gives timestamp clock [] old new e g = refl
fixed_timestamps gives timestamp clock (now ∷ timestamps) old new e g = (clock, (g.1.0 ∙ e, refl), fixed_timestamps gives timestamp clock timestamps g.0 new (ap (λ (f : Fixed). f.moment) g.1.1 ∙ e) g.2)

-- the same, with another clock
abbrev pub with_clock : {C D : Type 0} → ConnectionState C → D → ConnectionState D
with_clock state clock = record {
  moment = record { view = state.moment.view; clock = clock };
  outside = state.outside;
  requests = state.requests;
  unread = state.unread;
  written = state.written;
  read_faults = state.read_faults;
  write_faults = state.write_faults;
  gate = state.gate;
}

-- what was served with a fixed clock was served with the clock of a script that names its timestamp
pub served_at : {C : Type 0} (gives : C → ℕ → C → Type 0) (timestamp : ℕ) (layout : Layout) (before after : ConnectionState Fixed) (clock : C) (end : End) → before.moment.clock.moment ≡ timestamp
    → IsServed (λ (s : Fixed) (now : ℕ) (t : Fixed). (now ≡ s.moment) × (t ≡ s)) layout before after end
    → IsServed (clock_of (Some timestamp) gives) layout (with_clock before clock) (with_clock after clock) end
served_at gives timestamp layout before after clock end e s = record {
  exchanges = s.exchanges;
  last = s.last;
  stays_open = s.stays_open;
  traces = record {
    each = s.traces.each;
    rest = s.traces.rest;
    journals = s.traces.journals;
    stops = s.traces.stops;
    requests = s.traces.requests;
    timestamps = fixed_timestamps gives timestamp clock (timestamps_of (s.exchanges ++ exchanges_of s.last)) before.moment.clock after.moment.clock e s.traces.timestamps;
    keeps = s.traces.keeps;
    stays = s.traces.stays;
    alone = s.traces.alone;
  };
  carries = record {
    requests = s.carries.requests;
    replies = s.carries.replies;
    end_is = s.carries.end_is;
    read_faults = s.carries.read_faults;
    write_faults = s.carries.write_faults;
    log_faults = s.carries.log_faults;
    log_fault = s.carries.log_fault;
  };
  legal = s.legal;
}
