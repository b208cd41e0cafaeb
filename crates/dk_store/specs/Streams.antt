-- A source and a sink in memory as plain data.
use Rattle.std.specs.Prelude.{ℕ, List, Some, drop}
use Rattle.dk_store.specs.declared.mem_source.MemSource.{MemSource}
use Rattle.dk_store.specs.declared.mem_sink.MemSink.{MemSink}
use Rattle.dk_store.specs.Stream.{SourceSeen, SinkSeen}

-- the bytes that a source in memory has left
abbrev pub source_left : MemSource → List ℕ
source_left source = drop source.at source.bytes.items

-- how often it has failed
abbrev pub mem_source_faults : MemSource → ℕ
mem_source_faults source = source.faults

-- the bytes that a sink in memory has taken
abbrev pub sink_taken : MemSink → List ℕ
sink_taken sink = sink.taken.items

-- how often it has failed
abbrev pub mem_sink_faults : MemSink → ℕ
mem_sink_faults sink = sink.faults

-- what they show of themselves: they tell all
abbrev pub mem_source_seen : MemSource → SourceSeen
mem_source_seen source = record { left = Some (source_left source); faults = mem_source_faults source }

abbrev pub mem_sink_seen : MemSink → SinkSeen
mem_sink_seen sink = record { taken = Some (sink_taken sink); faults = mem_sink_faults sink }
