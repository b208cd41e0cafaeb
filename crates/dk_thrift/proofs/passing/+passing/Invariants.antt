-- A container's elements have one level less than it has; within a level the calls go from the container to its parts.
use Rattle.std.proofs.Common.{◌≡◌, ◌+◌, ◌-◌, ◌*◌, length, pos}
use Rattle.dk_grammar.specs.Passed.{each, element_passed, entry_passed, fields_passed}
use Rattle.dk_thrift.proofs.passing.+passing.Given as goal

abbrev pub decreases-pass_element : goal.decreases-pass_element
decreases-pass_element l = 4 * l.levels

abbrev pub decreases-pass_value : goal.decreases-pass_value
decreases-pass_value l = 4 * l.levels + 1

abbrev pub decreases-pass_each : goal.decreases-pass_each
decreases-pass_each l = 4 * l.levels + 2

abbrev pub decreases-pass_entries : goal.decreases-pass_entries
decreases-pass_entries l = 4 * l.levels + 2

abbrev pub decreases-pass_list : goal.decreases-pass_list
decreases-pass_list l = 4 * l.levels + 3

abbrev pub decreases-pass_map : goal.decreases-pass_map
decreases-pass_map l = 4 * l.levels + 3

abbrev pub decreases-pass_struct : goal.decreases-pass_struct
decreases-pass_struct l = 4 * l.levels + 3

-- passing over what is left gives what passing over all gives
abbrev pub invariant-pass_each-loop : goal.invariant-pass_each-loop
invariant-pass_each-loop l =
    each (element_passed l.levels l.kind) (l.count - l.counter) l.rest ≡ each (element_passed l.levels l.kind) l.count l.fn.bytes

abbrev pub invariant-pass_entries-loop : goal.invariant-pass_entries-loop
invariant-pass_entries-loop l =
    each (entry_passed (element_passed l.levels) l.key l.value) (l.count - l.counter) l.rest
    ≡ each (entry_passed (element_passed l.levels) l.key l.value) l.count l.fn.bytes

abbrev pub invariant-pass_struct-loop : goal.invariant-pass_struct-loop
invariant-pass_struct-loop l =
    fields_passed (element_passed l.levels) (length l.bytes - l.counter) l.last l.rest ≡ fields_passed (element_passed l.levels) (length l.bytes) (pos 0) l.bytes
