-- A protocol with the names of its list for writers.
use Rattle.dk_features.specs.declared.forms.Listing.{Listing}
use Rattle.dk_features.specs.InForce.{listed_features}
use Rattle.dk_model.specs.NameSets.{HasNames}

abbrev pub IsListing : Listing → Type 0
IsListing l = HasNames l.names (listed_features l.protocol.now.writer_features)
