use Rattle.std.proofs.Common.{refl}
use Rattle.smithy_context.specs.Setting.{place, key_name}
use Rattle.smithy_context.proofs.setting.SettingKey.row.Goals as goal

pub returns-in-Timeouts-clause-place : goal.returns-in-Timeouts-clause-place
unfolding place
returns-in-Timeouts-clause-place c = rw c.in-Timeouts.is refl

pub returns-in-Timeouts-clause-name : goal.returns-in-Timeouts-clause-name
unfolding key_name
returns-in-Timeouts-clause-name c = rw c.in-Timeouts.is refl

pub returns-in-Retry-clause-place : goal.returns-in-Retry-clause-place
unfolding place
returns-in-Retry-clause-place c = rw c.in-Retry.is refl

pub returns-in-Retry-clause-name : goal.returns-in-Retry-clause-name
unfolding key_name
returns-in-Retry-clause-name c = rw c.in-Retry.is refl

pub returns-in-Stall-clause-place : goal.returns-in-Stall-clause-place
unfolding place
returns-in-Stall-clause-place c = rw c.in-Stall.is refl

pub returns-in-Stall-clause-name : goal.returns-in-Stall-clause-name
unfolding key_name
returns-in-Stall-clause-name c = rw c.in-Stall.is refl

pub returns-in-LoadBody-clause-place : goal.returns-in-LoadBody-clause-place
unfolding place
returns-in-LoadBody-clause-place c = rw c.in-LoadBody.is refl

pub returns-in-LoadBody-clause-name : goal.returns-in-LoadBody-clause-name
unfolding key_name
returns-in-LoadBody-clause-name c = rw c.in-LoadBody.is refl

pub returns-in-Partition-clause-place : goal.returns-in-Partition-clause-place
unfolding place
returns-in-Partition-clause-place c = rw c.in-Partition.is refl

pub returns-in-Partition-clause-name : goal.returns-in-Partition-clause-name
unfolding key_name
returns-in-Partition-clause-name c = rw c.in-Partition.is refl

pub returns-in-Bucket-clause-place : goal.returns-in-Bucket-clause-place
unfolding place
returns-in-Bucket-clause-place c = rw c.in-Bucket.is refl

pub returns-in-Bucket-clause-name : goal.returns-in-Bucket-clause-name
unfolding key_name
returns-in-Bucket-clause-name c = rw c.in-Bucket.is refl

pub returns-in-Prefix-clause-place : goal.returns-in-Prefix-clause-place
unfolding place
returns-in-Prefix-clause-place c = rw c.in-Prefix.is refl

pub returns-in-Prefix-clause-name : goal.returns-in-Prefix-clause-name
unfolding key_name
returns-in-Prefix-clause-name c = rw c.in-Prefix.is refl

pub returns-in-Preference-clause-place : goal.returns-in-Preference-clause-place
unfolding place
returns-in-Preference-clause-place c = rw c.in-Preference.is refl

pub returns-in-Preference-clause-name : goal.returns-in-Preference-clause-name
unfolding key_name
returns-in-Preference-clause-name c = rw c.in-Preference.is refl

pub returns-in-V2-clause-place : goal.returns-in-V2-clause-place
unfolding place
returns-in-V2-clause-place c = rw c.in-V2.is refl

pub returns-in-V2-clause-name : goal.returns-in-V2-clause-name
unfolding key_name
returns-in-V2-clause-name c = rw c.in-V2.is refl

pub returns-in-EndpointParams-clause-place : goal.returns-in-EndpointParams-clause-place
unfolding place
returns-in-EndpointParams-clause-place c = rw c.in-EndpointParams.is refl

pub returns-in-EndpointParams-clause-name : goal.returns-in-EndpointParams-clause-name
unfolding key_name
returns-in-EndpointParams-clause-name c = rw c.in-EndpointParams.is refl

pub returns-in-AuthParams-clause-place : goal.returns-in-AuthParams-clause-place
unfolding place
returns-in-AuthParams-clause-place c = rw c.in-AuthParams.is refl

pub returns-in-AuthParams-clause-name : goal.returns-in-AuthParams-clause-name
unfolding key_name
returns-in-AuthParams-clause-name c = rw c.in-AuthParams.is refl

pub returns-in-EnforceLength-clause-place : goal.returns-in-EnforceLength-clause-place
unfolding place
returns-in-EnforceLength-clause-place c = rw c.in-EnforceLength.is refl

pub returns-in-EnforceLength-clause-name : goal.returns-in-EnforceLength-clause-name
unfolding key_name
returns-in-EnforceLength-clause-name c = rw c.in-EnforceLength.is refl

pub returns-in-Disable-clause-place : goal.returns-in-Disable-clause-place
unfolding place
returns-in-Disable-clause-place c = rw c.in-Disable.is refl

pub returns-in-Disable-clause-name : goal.returns-in-Disable-clause-name
unfolding key_name
returns-in-Disable-clause-name c = rw c.in-Disable.is refl

pub returns-in-Capture-clause-place : goal.returns-in-Capture-clause-place
unfolding place
returns-in-Capture-clause-place c = rw c.in-Capture.is refl

pub returns-in-Capture-clause-name : goal.returns-in-Capture-clause-name
unfolding key_name
returns-in-Capture-clause-name c = rw c.in-Capture.is refl

pub returns-in-Poisoned-clause-place : goal.returns-in-Poisoned-clause-place
unfolding place
returns-in-Poisoned-clause-place c = rw c.in-Poisoned.is refl

pub returns-in-Poisoned-clause-name : goal.returns-in-Poisoned-clause-name
unfolding key_name
returns-in-Poisoned-clause-name c = rw c.in-Poisoned.is refl

pub returns-in-Upload-clause-place : goal.returns-in-Upload-clause-place
unfolding place
returns-in-Upload-clause-place c = rw c.in-Upload.is refl

pub returns-in-Upload-clause-name : goal.returns-in-Upload-clause-name
unfolding key_name
returns-in-Upload-clause-name c = rw c.in-Upload.is refl

pub returns-in-User-clause-place : goal.returns-in-User-clause-place
unfolding place
returns-in-User-clause-place c = rw c.in-User.is refl

pub returns-in-User-clause-name : goal.returns-in-User-clause-name
unfolding key_name
returns-in-User-clause-name c = rw c.in-User.is refl
