-- What a store over a folder and the standard streams show of themselves: their counts alone.
use Rattle.std.specs.Prelude.{ℕ, None}
use Rattle.dk_store.specs.Seen.{Seen}
use Rattle.dk_store.specs.Stream.{SourceSeen, SinkSeen}
use Rattle.dk_dir.specs.declared.dir_store.DirStore.{DirStore}
use Rattle.dk_dir.specs.declared.std_stream.StdSink.{StdSink}
use Rattle.dk_dir.specs.declared.std_stream.StdSource.{StdSource}

-- how often the store has failed
abbrev pub dir_faults : {R X : Type 0} → DirStore R X → ℕ
dir_faults store = store.faults

-- how often a name or a version was taken already
abbrev pub dir_clashes : {R X : Type 0} → DirStore R X → ℕ
dir_clashes store = store.clashes

-- it tells no events
abbrev pub dir_seen : {R X : Type 0} → DirStore R X → Seen
dir_seen store = record { told = None; faults = dir_faults store; clashes = dir_clashes store }

-- how often the standard output has failed
abbrev pub std_sink_faults : {R : Type 0} → StdSink R → ℕ
std_sink_faults sink = sink.faults

-- how often the standard input has failed
abbrev pub std_source_faults : {R X : Type 0} → StdSource R X → ℕ
std_source_faults source = source.faults

-- they tell no bytes
abbrev pub std_sink_seen : {R : Type 0} → StdSink R → SinkSeen
std_sink_seen sink = record { taken = None; faults = std_sink_faults sink }

abbrev pub std_source_seen : {R X : Type 0} → StdSource R X → SourceSeen
std_source_seen source = record { left = None; faults = std_source_faults source }
