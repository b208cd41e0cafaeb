-- What is known of a log by the events of its store (Delta Lake's PROTOCOL.md, "In-Commit Timestamps").
use Rattle.std.specs.Prelude.{List, option_map, option_and_then, slice_get}
use Rattle.dk_store.specs.Told.{Told}
use Rattle.dk_store.specs.Objects.{object}
use Rattle.dk_store.specs.Standings.{ratified_from}
use Rattle.dk_paths.specs.Places.{place_path}
use Rattle.dk_lawful.specs.History.{RatifiedCommit, commits_of, state_of, history}
use Rattle.dk_lawful.specs.Openable.{standing_places}
use Rattle.dk_lawful.specs.Timestamps.{timestamp_of}
use Rattle.dk_times.specs.Times.{Known}

-- with a history
abbrev pub known_with : List Told → List RatifiedCommit → Known
known_with events history = record {
  places = standing_places events;
  ratified = ratified_from events 0;
  stamp = λ place. option_map (λ o. o.stamp) (object events (place_path place));
  said = λ version. option_and_then timestamp_of (slice_get (commits_of history) version);
  state = state_of history;
}

-- the objects and ratifications that stand, and what the commits of its own history say
abbrev pub known_of : List Told → Known
known_of events = known_with events (history events)
