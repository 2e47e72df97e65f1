-- From why a volume refused to why the log did.
use Rattle.xod_volume.specs.declared.volume.VolumeError.{VolumeError}
use Rattle.xod_volume.specs.declared.volume.VolumeError.TheVariants.{Failed, Memory}
use Rattle.xod_log.specs.declared.error.LogError.{LogError}
use Rattle.xod_log.specs.declared.error.LogError.TheVariants as log_error

abbrev pub error_of : VolumeError → LogError
error_of Failed = log_error.Device
error_of Memory = log_error.Memory
