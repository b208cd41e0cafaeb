-- The laws are lemmas.
use Rattle.dk_snapshot.proofs.BaseExample as lemmas
use Rattle.dk_snapshot.proofs.laws.bases_are_read.Goals as goal

pub returns-clause-whole : goal.returns-clause-whole
returns-clause-whole c = lemmas.whole_is_read

pub returns-clause-absent : goal.returns-clause-absent
returns-clause-absent c = lemmas.absent_is_missing

pub returns-clause-great : goal.returns-clause-great
returns-clause-great c = lemmas.great_is_over

pub returns-clause-part : goal.returns-clause-part
returns-clause-part c = lemmas.earlier_part_is_first

pub returns-clause-line : goal.returns-clause-line
returns-clause-line c = lemmas.bad_line_is_named

pub returns-clause-unmarked : goal.returns-clause-unmarked
returns-clause-unmarked c = lemmas.unmarked_is_damaged

pub returns-clause-marked_twice : goal.returns-clause-marked_twice
returns-clause-marked_twice c = lemmas.marked_twice_is_damaged

pub returns-clause-misnaming : goal.returns-clause-misnaming
returns-clause-misnaming c = lemmas.misnaming_is_damaged

pub returns-clause-sidecar : goal.returns-clause-sidecar
returns-clause-sidecar c = lemmas.lacking_sidecar_is_missing

pub returns-clause-text : goal.returns-clause-text
returns-clause-text c = lemmas.text_for_file_is_damaged

pub returns-clause-codec : goal.returns-clause-codec
returns-clause-codec c = lemmas.codec_is_named

pub returns-clause-encoding : goal.returns-clause-encoding
returns-clause-encoding c = lemmas.encoding_is_named
