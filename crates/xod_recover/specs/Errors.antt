-- The error of an opening for each cause.
use Rattle.xod_base.specs.declared.causes.ReadError.{ReadError}
use Rattle.xod_base.specs.declared.causes.ReadError.TheVariants as read
use Rattle.xod_volume.specs.declared.volume.VolumeError.{VolumeError}
use Rattle.xod_volume.specs.declared.volume.VolumeError.TheVariants as volume
use Rattle.xod_recover.specs.declared.error.OpenError.{OpenError}
use Rattle.xod_recover.specs.declared.error.OpenError.TheVariants.{Damaged, Device, Memory}

-- of a call of the volume
abbrev pub volume_as : VolumeError → OpenError
volume_as volume.Failed = Device
volume_as volume.Memory = Memory

-- of a read
abbrev pub read_as : ReadError → OpenError
read_as read.Device = Device
read_as (read.Damaged place) = Damaged place
read_as read.Memory = Memory
