-- A bucket is sound once a further replica of a sub joined with its feed.
use Rattle.std.proofs.Common.{◌≡◌, ℕ, ◌+◌, ◌-◌, ◌<◌, nat_lt, Bool, true, false, cond, List, [], ◌∷◌, ◌++◌, length, map, All, Contains, ◌≢◌, refl, sym, ap, ◌∙◌, subst, arith}
use Rattle.std.specs.List.{range_with_len, remove}
use Rattle.std.proofs.lemmas.List.{length_push}
use Rattle.std.proofs.lemmas.List.Elements.{All-contains, All-contains_itself, All-map, All-weaker}
use Rattle.std.proofs.lemmas.List.FromFn.{length-range_with_len, get_or-range_with_len}
use Rattle.sc_record.specs.declared.slice.SliceId.{SliceId}
use Rattle.sc_record.specs.declared.slice.CoreId.{CoreId}
use Rattle.sc_cluster.specs.declared.slice.Slice.{Slice}
use Rattle.sc_cluster.specs.Map.{IsMap}
use Rattle.sc_cluster.specs.Slices.{is_forming}
use Rattle.sc_cluster.proofs.LeaderLemmas.{same_from_id}
use Rattle.sc_cluster.proofs.ListLemmas.{Contains-map}
use Rattle.sc_ulog.specs.declared.mode.Mode.TheVariants.{Active}
use Rattle.sc_replica.specs.Core.{Core}
use Rattle.sc_journal.specs.Down.{is_down}
use Rattle.sc_journal.specs.Seats.{seats}
use Rattle.sc_journal.proofs.LegalDownLemmas.{forming_is_up}
use Rattle.sc_journal.proofs.SeatLemmas.{seats_begin_in_order}
use Rattle.sc_bucket.specs.Kept.{Sent, FeedState}
use Rattle.sc_record.specs.Names.{is_core}
use Rattle.sc_replicas.specs.Cores.{core_key, core_keys, slice_keys, core_number, IsCounted, put_by_name, without_room, IsCoreWithoutRoom}
use Rattle.sc_bucket.specs.Flight.{in_flight, is_to}
use Rattle.sc_bucket.specs.Pending.{is_feed_of}
use Rattle.sc_bucket.specs.Sound.{IsSent, IsMarked, may_catch_up, HasCores, IsFeed, AreFeeds, IsInPhase, IsSound}
use Rattle.sc_bucket.specs.declared.bucket.Bucket.{Bucket}
use Rattle.sc_bucket.proofs.AcceptLemmas.{bucket_has_map}
use Rattle.sc_replicas.proofs.CoreLemmas.{name_of, keys_among, element_from_map}
use Rattle.sc_bucket.proofs.SoundLemmas.{IsOpen-same}
use Rattle.sc_bucket.proofs.TakenLemmas.{Contains-slice_get}
use Rattle.sc_handover.specs.Conditions.{CanGrow}
use Rattle.sc_handover.specs.Made.{empty_core}
use Rattle.sc_handover.specs.Parts.{CanFollow, IsMade, Joins}
use Rattle.sc_bucket.proofs.CatchUpLemmas.{forming_catches_up}
use Rattle.sc_handover.proofs.PushedLemmas.{first_is_idle}
use Rattle.sc_handover.proofs.ChangedLemmas.{IsSound-with_fed}
use Rattle.sc_handover.proofs.FollowingLemmas.{IsReadyToFollow, core_named, IsSoundFed, other_is_sound, core_is_sound, AreFeeds-followed}
use Rattle.sc_handover.proofs.SettleSubsLemmas.{in_flight-no_message}
use Rattle.sc_handover.proofs.SwitchedMapLemmas.{split_is_open}
use Rattle.sc_handover.proofs.HandedOnLemmas.{All-from_map}
use Rattle.sc_handover.proofs.PutLemmas.{All-put, Contains-put_own, Contains-put, Contains-map_put, AscendByName-put, other_number}
use Rattle.sc_handover.proofs.MadeLemmas.{in_order-made}

-- the bucket with the core and its feed
abbrev pub joined : Bucket → Core → FeedState → Bucket
joined b core feed = record b { replicas = put_by_name core b.replicas; feeds = b.feeds ++ feed ∷ [] }

-- a core and its feed may join a sound bucket
pub record MayJoin (b : Bucket) (name : CoreId) (sub : Slice) (core : Core) (feed : FeedState) : Type 0 where
  pub sound : IsSound b
  pub can : CanGrow b name sub
  pub follows : CanFollow b name sub
  pub made : IsMade b name sub core feed

-- each core that is there has another name
other_name : (b : Bucket) (name : CoreId) (sub : Slice) (other : Core) → CanGrow b name sub → Contains b.replicas other
    → is_core name other.core ≡ false
other_name b name sub other can there =
    All-contains (λ (c : Core). is_core name c.core ≡ false) b.replicas other can.missing there

-- so a feed that is there is another's
other_feed : (b : Bucket) (name : CoreId) (sub : Slice) (feed : FeedState) → CanGrow b name sub → IsFeed b feed
    → is_core name feed.core ≡ false
other_feed b name sub feed can is =
    ap (is_core name) (sym is.core_is) ∙ other_name b name sub is.core can is.core_there

-- and a message in flight is to another
other_message : (b : Bucket) (name : CoreId) (sub : Slice) (message : Sent) → CanGrow b name sub → IsSent b message
    → is_core name message.core ≡ false
other_message b name sub message can sent =
    let (k, core, at, is) = element_from_map name_of b.replicas message.core sent.core in
    ap (is_core name) (sym is) ∙ other_name b name sub core can (Contains-slice_get b.replicas k core at)

-- nothing is in flight to the new core
none_in_flight : (b : Bucket) (name : CoreId) (sub : Slice) → IsSound b → CanGrow b name sub → in_flight b.flight.messages name ≡ []
none_in_flight b name sub sound can =
    in_flight-no_message b.flight.messages name
    (All-weaker (IsSent b) (λ (message : Sent). is_to name message ≡ false)
    (λ message. other_message b name sub message can) b.flight.messages sound.messages.each)

-- so the core is ready to follow its leader
ready_to_follow : (b : Bucket) (name : CoreId) (sub : Slice) (core : Core) (feed : FeedState) → MayJoin b name sub core feed
    → IsReadyToFollow b name sub core feed
ready_to_follow b name sub core feed may = record {
  sound = may.sound;
  can = may.follows;
  made = may.made;
  unsent = none_in_flight b name sub may.sound may.can;
  unfed = All-weaker (IsFeed b) (λ (other : FeedState). is_feed_of name other ≡ false)
      (λ other. other_feed b name sub other may.can) b.feeds may.sound.feeds.each;
}

-- ---- the names of the cores
-- the new core's is one of the sub's
key_of_sub : (b : Bucket) (name : CoreId) (sub : Slice) → CanGrow b name sub
    → Contains (slice_keys sub) (name.slice.0, name.replica)
key_of_sub b name sub can =
    let count = length-range_with_len 1 sub.replicas in
    let below : name.replica - 1 < length (range_with_len 1 sub.replicas) = omega (arith, count, can.above, can.planned) in
    let replica : Contains (range_with_len 1 sub.replicas) name.replica = (
      name.replica - 1,
      below,
      get_or-range_with_len 1 sub.replicas (name.replica - 1) name.replica (omega (arith, can.above, can.planned))
          ∙ omega (arith, can.above),
    ) in
    subst (λ (id : SliceId). Contains (slice_keys sub) (id.0, name.replica)) (sym can.of_sub)
    (Contains-map (λ (n : ℕ). (sub.id.0, n)) (range_with_len 1 sub.replicas) name.replica replica)

HasCores-joined : (b : Bucket) (name : CoreId) (sub : Slice) (core : Core) (feed : FeedState) → MayJoin b name sub core feed
    → HasCores (joined b core feed)
HasCores-joined b name sub core feed may = record {
  counted = All-put IsCounted core b.replicas may.made.counted has.counted;
  ascend = AscendByName-put core b.replicas has.ascend
      (All-weaker (Contains b.replicas) (λ (other : Core). core_number other.core ≢ core_number core.core) differ b.replicas
      (All-contains_itself b.replicas));
  of_map = All-map (Contains (core_keys b.map)) core_key (put_by_name core b.replicas)
      (All-put (λ (c : Core). Contains (core_keys b.map) (core_key c)) core b.replicas key
      (All-from_map (Contains (core_keys b.map)) core_key b.replicas has.of_map));
  leaders = All-weaker (λ (slice : Slice). Contains (map core_key b.replicas) (slice.id.0, 1))
      (λ (slice : Slice). Contains (map core_key (put_by_name core b.replicas)) (slice.id.0, 1))
      (λ slice there. Contains-map_put core_key core b.replicas (slice.id.0, 1) there) b.map has.leaders;
  whole = All-weaker (λ (slice : Slice). is_forming slice ≡ false → All (Contains (map core_key b.replicas)) (slice_keys slice))
      (λ (slice : Slice). is_forming slice ≡ false → All (Contains (map core_key (put_by_name core b.replicas))) (slice_keys slice))
      (λ slice all settled. All-weaker (Contains (map core_key b.replicas)) (Contains (map core_key (put_by_name core b.replicas)))
      (λ one there. Contains-map_put core_key core b.replicas one there) (slice_keys slice) (all settled)) b.map has.whole;
  active = All-put (λ (c : Core). (slice : Slice) → Contains b.map slice → slice.id ≡ c.core.slice
      → may_catch_up b.phase slice c.core ≡ false → c.mode ≡ Active)
      core b.replicas
      (λ slice there of_core caught_up.
      let same : slice ≡ sub = same_from_id b.map slice sub (bucket_has_map b may.sound.journal) there may.can.there
      (of_core ∙ ap (λ (n : CoreId). n.slice) named ∙ may.can.of_sub) in
      let catches : may_catch_up b.phase slice core.core ≡ true =
      forming_catches_up b.phase slice core.core (ap is_forming same ∙ may.can.forming) in
      let both : true ≡ false = sym catches ∙ caught_up in
      absurd (cc))
      has.active;
  marked = All-put (IsMarked b.journal.entries) core b.replicas
      (record {
        down = ap (λ (c : Core). c.down) may.made.core_is ∙ sym up;
        number = ap (λ (c : Core). c.number) may.made.core_is
            ∙ sym (ap (λ (n : CoreId). seats b.journal.entries n.slice n.replica) named ∙ in_order name.replica);
      }) has.marked;
} where
  has : HasCores b
  has = may.sound.cores

  named : core.core ≡ name
  named = core_named b name sub core feed may.made

  up : is_down b.journal.entries (core_key core) ≡ false
  up =
      let journal = may.sound.journal in
      forming_is_up b.first b.journal.entries sub (core_key core) journal.legal
      (subst IsMap journal.map_is (bucket_has_map b journal))
      (subst (λ (slices : List Slice). Contains slices sub) journal.map_is may.can.there) may.can.forming
      (ap (λ (id : SliceId). id.0) (ap (λ (n : CoreId). n.slice) named ∙ may.can.of_sub))

  in_order : (seat : ℕ) → seats b.journal.entries name.slice seat ≡ seat
  in_order =
      let journal = may.sound.journal in
      seats_begin_in_order b.first b.journal.entries name.slice journal.first (first_is_idle b journal) journal.legal
      (λ slice there of_name.
      let within : Contains b.map slice = subst (λ (slices : List Slice). Contains slices slice) (sym journal.map_is) there in
      ap is_forming (same_from_id b.map slice sub (bucket_has_map b journal) within may.can.there (of_name ∙ may.can.of_sub))
      ∙ may.can.forming)

  differ : (other : Core) → Contains b.replicas other → core_number other.core ≢ core_number core.core
  differ other there =
      other_number core other may.made.counted (All-contains IsCounted b.replicas other has.counted there)
      (ap (λ (n : CoreId). is_core n other.core) named ∙ other_name b name sub other may.can there)

  key : Contains (core_keys b.map) (core_key core)
  key =
      subst (λ (n : CoreId). Contains (core_keys b.map) (n.slice.0, n.replica)) (sym named)
      (keys_among b.map sub (name.slice.0, name.replica) may.can.there (key_of_sub b name sub may.can))

-- ---- the feeds
AreFeeds-joined : (b : Bucket) (name : CoreId) (sub : Slice) (core : Core) (feed : FeedState) → MayJoin b name sub core feed
    → AreFeeds (joined b core feed)
AreFeeds-joined b name sub core feed may =
    AreFeeds-followed b name sub core feed (put_by_name core b.replicas) core (ready_to_follow b name sub core feed may)
    (forming_catches_up b.phase sub name may.can.forming)
    (λ other there apart. Contains-put core b.replicas other there) (Contains-put_own core b.replicas)
    (core_named b name sub core feed may.made) (ap (λ (c : Core). c.mode) may.made.core_is)

-- ---- the rest
phase-joined : (b : Bucket) (name : CoreId) (sub : Slice) (core : Core) (feed : FeedState) → MayJoin b name sub core feed
    → IsInPhase (joined b core feed) b.phase
phase-joined b name sub core feed may =
    let (split, led) = split_is_open b may.can.parent may.sound may.can.recovering in
    subst (IsInPhase (joined b core feed)) (sym may.can.recovering) (
      IsOpen-same b (joined b core feed) may.can.parent refl refl split,
      All-put (λ (c : Core). (slice : Slice) → Contains b.map slice → slice.id ≡ c.core.slice → is_forming slice ≡ true
          → c.core.replica ≡ 1 → c.mode ≡ Active) core b.replicas
          (λ slice there of_core forms leads.
          let first : name.replica ≡ 1 = ap (λ (n : CoreId). n.replica) (sym (core_named b name sub core feed may.made)) ∙ leads in
          absurd (omega (arith, may.can.above)))
          led,
    )

-- so a bucket is sound once both joined
IsSound-joined : (b : Bucket) (name : CoreId) (sub : Slice) (core : Core) (feed : FeedState) → MayJoin b name sub core feed
    → IsSound (joined b core feed)
IsSound-joined b name sub core feed may =
    let cores : All (IsSoundFed b (b.feeds ++ feed ∷ [])) (put_by_name core b.replicas) =
    let ready = ready_to_follow b name sub core feed may in
    All-put (IsSoundFed b (b.feeds ++ feed ∷ [])) core b.replicas (core_is_sound b name sub core feed ready)
    (All-weaker (Contains b.replicas) (IsSoundFed b (b.feeds ++ feed ∷ []))
    (λ other there. other_is_sound b name sub core feed other ready there (other_name b name sub other may.can there)) b.replicas
    (All-contains_itself b.replicas)) in
    IsSound-with_fed b (b.feeds ++ feed ∷ []) (put_by_name core b.replicas) may.sound cores
    (All-put IsCoreWithoutRoom core b.replicas (in_order-made name core may.made.core_is) may.sound.in_order)
    (λ other. Contains-map_put name_of core b.replicas other) (HasCores-joined b name sub core feed may)
    (AreFeeds-joined b name sub core feed may) (phase-joined b name sub core feed may)

-- the cores are those with an empty one more
AreSameCores-put : (core : Core) (cores : List Core) → map without_room (put_by_name core cores) ≡ map without_room (put_by_name (without_room core) cores)
AreSameCores-put core [] = refl
AreSameCores-put core (other ∷ cores) =
    by (nat_lt (core_number core.core) (core_number other.core)) (AreSameCores-put core cores)
  where
    by : (b : Bool) → map without_room (put_by_name core cores) ≡ map without_room (put_by_name (without_room core) cores)
        → map without_room (cond b (core ∷ other ∷ cores) (other ∷ put_by_name core cores))
        ≡ map without_room (cond b (without_room core ∷ other ∷ cores) (other ∷ put_by_name (without_room core) cores))
    by true rest = refl
    by false rest = ap (λ these. without_room other ∷ these) rest

-- as the calls leave it
pub IsSound-put_in : (b : Bucket) (name : CoreId) (sub : Slice) (core : Core) (feed : FeedState) (cores : List Core)
    (feeds : List FeedState) → MayJoin b name sub core feed → cores ≡ put_by_name core b.replicas → feeds ≡ b.feeds ++ feed ∷ []
    → IsSound (record b { replicas = cores; feeds = feeds })
IsSound-put_in b name sub core feed cores feeds may cores_are feeds_are =
    subst (λ (these : List Core). IsSound (record b { replicas = these; feeds = feeds })) (sym cores_are)
    (subst (λ (these : List FeedState). IsSound (record b { replicas = put_by_name core b.replicas; feeds = these })) (sym feeds_are)
    (IsSound-joined b name sub core feed may))

pub Joins-put_in : (b : Bucket) (name : CoreId) (sub : Slice) (core : Core) (feed : FeedState) (cores : List Core)
    (feeds : List FeedState) → IsMade b name sub core feed → cores ≡ put_by_name core b.replicas → feeds ≡ b.feeds ++ feed ∷ []
    → Joins b core.core feed (record b { replicas = cores; feeds = feeds })
Joins-put_in b name sub core feed cores feeds made cores_are feeds_are = record {
  kept = record { first = refl; limit = refl; filed = refl };
  map_is = refl;
  entries = refl;
  phase_is = refl;
  flight_is = refl;
  cores = ap (map without_room) cores_are ∙ AreSameCores-put core b.replicas
      ∙ ap (λ (c : Core). map without_room (put_by_name c b.replicas))
      (made.core_is ∙ ap empty_core (sym (core_named b name sub core feed made)));
  feeds_are = feeds_are;
  searchers_are = refl;
}

-- a feed that was put in last and is taken away again
remove_last : (feeds : List FeedState) (feed : FeedState) → remove (feeds ++ feed ∷ []) (length feeds) ≡ feeds
remove_last [] feed = refl
remove_last (first ∷ feeds) feed = ap (λ these. first ∷ these) (remove_last feeds feed)

pub feeds_back : (feeds new left : List FeedState) (feed : FeedState) (count : ℕ) → new ≡ feeds ++ feed ∷ [] → count ≡ length new
    → left ≡ remove new (count - 1) → left ≡ feeds
feeds_back feeds new left feed count new_is count_is left_is =
    let long : length new ≡ length feeds + 1 = ap length new_is ∙ length_push feeds feed in
    let at : count - 1 ≡ length feeds = omega (arith, count_is) in
    left_is ∙ ap (λ these. remove these (count - 1)) new_is ∙ ap (remove (feeds ++ feed ∷ [])) at ∙ remove_last feeds feed

-- leaves the bucket as it was
pub bucket_back : (b : Bucket) (cores : List Core) (feeds : List FeedState) → cores ≡ b.replicas → feeds ≡ b.feeds
    → record b { replicas = cores; feeds = feeds } ≡ b
bucket_back b cores feeds same_cores same_feeds =
    ap (λ (these : List Core). record b { replicas = these; feeds = feeds }) same_cores
    ∙ ap (λ (these : List FeedState). record b { feeds = these }) same_feeds
