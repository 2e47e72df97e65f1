use Rattle.xod_recover.proofs.CutImages.{near_agrees}
use Rattle.xod_recover.proofs.near.near_images_store_what_was_found.Goals as goal

pub returns-clause-decided : goal.returns-clause-decided
returns-clause-decided c newest files left found near count = (near_agrees newest files found found.fits left near count).0

pub returns-clause-stored : goal.returns-clause-stored
returns-clause-stored c newest files left found near count = (near_agrees newest files found found.fits left near count).1
