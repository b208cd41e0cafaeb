-- The laws are lemmas.
use Rattle.dk_lawful.proofs.ContentLaws as contents
use Rattle.dk_lawful.proofs.CutExample.{cut_tells}
use Rattle.dk_lawful.proofs.checkpoint_laws.contents_stand.Goals as goal

pub returns-clause-classic : goal.returns-clause-classic
returns-clause-classic c = contents.classic_stands

pub returns-clause-part : goal.returns-clause-part
returns-clause-part c = contents.part_has_share

pub returns-clause-v2 : goal.returns-clause-v2
returns-clause-v2 c = contents.v2_stands

pub returns-clause-version : goal.returns-clause-version
returns-clause-version c = contents.v2_says_version

pub returns-clause-sidecars : goal.returns-clause-sidecars
returns-clause-sidecars c = contents.sidecars_have_files

pub returns-clause-stands : goal.returns-clause-stands
returns-clause-stands c = contents.standing_composes

pub returns-clause-share : goal.returns-clause-share
returns-clause-share c = contents.share_composes

pub returns-clause-cut : goal.returns-clause-cut
returns-clause-cut c = cut_tells
