-- From why a call below was refused to why the environment was, and from there to why a flush was.
use Rattle.xod_base.specs.declared.causes.ReadError.{ReadError}
use Rattle.xod_base.specs.declared.causes.ReadError.TheVariants as read_error
use Rattle.xod_log.specs.declared.error.LogError.{LogError}
use Rattle.xod_log.specs.declared.error.LogError.TheVariants as log_error
use Rattle.xod_volume.specs.declared.volume.VolumeError.{VolumeError}
use Rattle.xod_volume.specs.declared.volume.VolumeError.TheVariants as volume_error
use Rattle.xod_env.specs.declared.error.EnvError.{EnvError}
use Rattle.xod_env.specs.declared.error.EnvError.TheVariants as env_error
use Rattle.xod_env.specs.declared.error.FlushError.{FlushError}
use Rattle.xod_env.specs.declared.error.FlushError.TheVariants as flush_error

abbrev pub error_of_read : ReadError → EnvError
error_of_read read_error.Device = env_error.Device
error_of_read (read_error.Damaged place) = env_error.Damaged place
error_of_read read_error.Memory = env_error.Memory

abbrev pub error_of_volume : VolumeError → EnvError
error_of_volume volume_error.Failed = env_error.Device
error_of_volume volume_error.Memory = env_error.Memory

abbrev pub error_of_log : LogError → EnvError
error_of_log log_error.Device = env_error.Device
error_of_log (log_error.NumbersSpent last) = env_error.NumbersSpent last
error_of_log log_error.Memory = env_error.Memory

abbrev pub flush_error_of : EnvError → FlushError
flush_error_of env_error.Broken = flush_error.Broken
flush_error_of env_error.Device = flush_error.Device
flush_error_of (env_error.Damaged place) = flush_error.Damaged place
flush_error_of (env_error.NumbersSpent last) = flush_error.NumbersSpent last
flush_error_of env_error.Memory = flush_error.Memory
